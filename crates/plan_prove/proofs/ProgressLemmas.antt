-- The reports to a watcher in several calls are true of the shop.
use Rattle.std.proofs.Common.{ℕ, inl, inr, List, ap, sym, ◌∙◌, subst, arith}
use Rattle.plan_prove.specs.Proofs.{HasTaken}
use Rattle.plan_prove.specs.States.{AreRefuted}
use Rattle.plan_prove.specs.declared.graph.Graph.{Graph}
use Rattle.plan_prove.specs.declared.state.State.{State}
use Rattle.plan_prove.specs.Progress.{Progress, HearsKnown}
use Rattle.plan_prove.specs.declared.search.Search.{Search}

pub known_twice : (search : Search) (before between after : Progress → Type 0) → HearsKnown search before between → HearsKnown search between after → HearsKnown search before after
known_twice search before between after first second p was = elim (second p was) [
  | inl earlier ↦ first p earlier
  | inr known ↦ inr known
]

-- a report with the data of a search after it used nodes has its data before
pub known_before : (old new : Search) (before after : Progress → Type 0) → HasTaken old new → HearsKnown new before after → HearsKnown old before after
known_before old new before after taken heard p was = elim (heard p was) [
  | inl earlier ↦ inl earlier
  | inr known ↦ inr (record {
    best = known.best ∙ ap (λ proof. proof.schedule.makespan) taken.proof;
    lower = known.lower ∙ ap (λ proof. proof.lower) taken.proof;
    within = omega (arith, known.within, taken.most);
  })
]

-- nodes are used, and then more
pub taken_twice : (old mid new : Search) → HasTaken old mid → HasTaken mid new → HasTaken old new
taken_twice old mid new first second = record {
  graph = second.graph ∙ first.graph;
  proof = second.proof ∙ first.proof;
  most = second.most ∙ first.most;
  left = omega (arith, first.left, second.left);
}

-- states that are refuted after nodes were used are refuted before
pub refuted_before : (old new : Search) (limit : ℕ) (states : List State) → HasTaken old new → AreRefuted new.graph limit states → AreRefuted old.graph limit states
refuted_before old new limit states taken all = subst (λ (g : Graph). AreRefuted g limit states) taken.graph all

pub refuted_behind : (old new : Search) (limit : ℕ) (states : List State) → HasTaken old new → AreRefuted old.graph limit states → AreRefuted new.graph limit states
refuted_behind old new limit states taken all = subst (λ (g : Graph). AreRefuted g limit states) (sym taken.graph) all
