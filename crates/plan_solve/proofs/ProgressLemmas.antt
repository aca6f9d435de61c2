-- The reports that a watcher receives in several calls are true of a problem.
use Rattle.std.proofs.Common.{◌≡◌, ◌∙◌, ◌≤◌, ℕ, inl, inr, max, List, sym, subst, arith}
use Rattle.plan_sgs.specs.Problem.{Problem}
use Rattle.plan_kernel.specs.declared.input.Input.{Input}
use Rattle.plan_kernel.specs.Plans as plans
use Rattle.plan_kernel.specs.Kernels as kernels
use Rattle.plan_kernel.proofs.PlanLemmas.{plain_feasible, plain_cost, plain_lower}
use Rattle.plan_solve.specs.Progress.{Progress, Hears, HearsNothing, HearsTruth, IsProgressOf}
use Rattle.plan_solve.specs.Solutions.{IsLowerBound}

-- the greater of a lower bound and that of a kernel is a lower bound of all makespans
pub greater_lower : (input : Input) (p : Problem) (simple lower greater : ℕ) → plans.IsPlain input p → IsLowerBound p simple → plans.IsLowerBound input lower
    → greater ≡ max simple lower → IsLowerBound p greater
greater_lower input p simple lower greater plain one other greatest starts feasible =
    omega (arith, greatest, one starts feasible, plain_lower input p lower plain other starts feasible)

-- what is heard of the best list of a kernel is true
pub heard_of_best : (input : Input) (p : Problem) (starts : List ℕ) (upper lower conflicts : ℕ) (before after : Progress → Type 0) → plans.IsPlain input p
    → kernels.IsBest input starts upper → IsLowerBound p lower → Hears before after (record { best = upper; lower = lower; conflicts = conflicts })
    → HearsTruth p conflicts before after
heard_of_best input p starts upper lower conflicts before after plain best bound hears q was = elim (hears q was) [
  | inl earlier ↦ inl earlier
  | inr told ↦ inr (subst (λ (r : Progress). IsProgressOf p conflicts r) (sym told) true_of)
] where
  true_of : IsProgressOf p conflicts (record { best = upper; lower = lower; conflicts = conflicts })
  true_of = record {
    best = (starts, plain_feasible input p starts plain best.plan, sym best.cost_is ∙ plain_cost input p starts plain);
    lower = bound;
    within = omega arith;
  }
