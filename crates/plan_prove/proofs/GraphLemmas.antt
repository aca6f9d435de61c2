-- All feasible starts of a shop keep its graph, so a refutation for the graph is one for the shop.
use Rattle.std.proofs.Common.{◌≡◌, ℕ, suc, ◌+◌, ◌≤◌, ◌<◌, inl, inr, List, [], ◌∷◌, ◌++◌, Some, Vec, true, false, nat_eq, nat_lt, add-one, Contains, length}
use Rattle.std.proofs.Common.{get_or, map, take, ap, sym, ◌∙◌, subst, arith}
use Rattle.std.specs.List.{All, AllPairs}
use Rattle.std.specs.declared.alloc.Global.{Global}
use Rattle.plan_shop.proofs.NumberLemmas.{there_passes, those_rise}
use Rattle.std.proofs.lemmas.Bool.{cases_lt, eqb-true, ltb-true, cond-true, cond-false, and_parts}
use Rattle.std.proofs.lemmas.List.{get_or_past, get_or-map, length-map, take_more, map_push, append-nil}
use Rattle.std.specs.List.{slice_get}
use Rattle.std.proofs.lemmas.Option.{get_or_from_slice_get, slice_get_within}
use Rattle.plan_sgs.proofs.TotalLemmas.{greatest_above}
use Rattle.plan_orlib.specs.declared.steps.Step.{Step}
use Rattle.plan_sgs.specs.Problem.{count, duration, IsFeasible, makespan}
use Rattle.plan_shop.specs.Shop.{JobShop, machine_of, those_below, idle, count_steps, time_of, job_of, problem_of}
use Rattle.plan_shop.specs.Laws.{IsChained, IsApart, ArcsAreNeighbours, CapacitiesKeepApart}
use Rattle.plan_shop.proofs.ShopBasics.{arcs_are_neighbours, capacities_keep_apart, count_is, duration_is}
use Rattle.plan_prove.specs.Graphs.{time_in, KeepsArc, KeepsApart, KeepsClique, IsKept, IsBelow, NoneIsBelow, IsArcOf, IsPairOf, lasts_on, IsCliqueOf, IsGraphOf}
use Rattle.plan_prove.specs.Proofs.{IsLowerBound, IsProofOf, IsSearchOf, HasTaken}
use Rattle.plan_prove.specs.declared.graph.Graph.{Graph}
use Rattle.plan_prove.specs.declared.proof.Proof.{Proof}
use Rattle.plan_prove.specs.declared.search.Search.{Search}

-- the times of the graph are those of the shop
pub time_is : (s : JobShop) (g : Graph) → IsGraphOf s g → (x : ℕ) → time_in g x ≡ time_of s x
time_is s g is x = ap (λ xs. get_or xs x 0) is.times ∙ elim (cases_lt x (length s.steps)) [
  | inl below ↦ get_or-map (λ (w : Step). w.time) s.steps x idle 0 below
  | inr past ↦
      get_or_past (map (λ (w : Step). w.time) s.steps) x 0 (omega (arith, past, length-map s.steps (λ (w : Step). w.time)))
      ∙ sym (ap (λ (w : Step). w.time) (get_or_past s.steps x idle past))
]

-- the times with one more step
pub times_more : (s : JobShop) (i : ℕ) (step : Step) (times new : List ℕ) → times ≡ map (λ (w : Step). w.time) (take i s.steps) → slice_get s.steps i ≡ Some step
    → new ≡ times ++ step.time ∷ [] → new ≡ map (λ (w : Step). w.time) (take (i + 1) s.steps)
times_more s i step times new before there is =
    let time : Step → ℕ = λ w. w.time in
    let more : take (i + 1) s.steps ≡ take i s.steps ++ step ∷ [] =
    take_more s.steps i step (slice_get_within s.steps i step there) ∙ ap (λ (w : Step). take i s.steps ++ w ∷ []) (get_or_from_slice_get s.steps i step step there) in
    is ∙ ap (λ (xs : List ℕ). xs ++ step.time ∷ []) before ∙ sym (map_push time (take i s.steps) step) ∙ ap (map time) (sym more)

-- the steps of a clique are those of a machine that last, so that no two overlap
clique_kept : (s : JobShop) (g : Graph) (starts : List ℕ) (clique : Vec ℕ Global) → IsGraphOf s g → IsCliqueOf s clique → IsApart s starts → KeepsClique g starts clique
clique_kept s g starts clique is (m, are) apart = record {
  rising = subst (λ (xs : List ℕ). AllPairs (λ x y. x < y) xs) (sym are) (those_rise (count_steps s) (lasts_on s m));
  apart = λ x y in_x in_y rising.
      let first = there_passes (count_steps s) (lasts_on s m) x (subst (λ (xs : List ℕ). Contains xs x) are in_x) in
      let second = there_passes (count_steps s) (lasts_on s m) y (subst (λ (xs : List ℕ). Contains xs y) are in_y) in
      let one = lasting s m x first.1 in
      let other = lasting s m y second.1 in
      elim (apart x y rising second.0 (one.0 ∙ sym other.0) one.1 other.1) [
        | inl before ↦ inl (omega (arith, before, time_is s g is x))
        | inr after ↦ inr (omega (arith, after, time_is s g is y))
      ];
} where
  lasting : (s : JobShop) (m x : ℕ) → lasts_on s m x ≡ true → (machine_of s x ≡ m) × (0 < time_of s x)
  lasting s m x passes =
      let h = and_parts (nat_eq (machine_of s x) m) (nat_lt 0 (time_of s x)) passes in
      (eqb-true (machine_of s x) m h.0, ltb-true 0 (time_of s x) h.1)

pub kept_in : (s : JobShop) (g : Graph) (starts : List ℕ) → IsGraphOf s g → IsFeasible (problem_of s) starts → IsKept g starts
unfolding ArcsAreNeighbours CapacitiesKeepApart
kept_in s g starts is feasible =
    let chained : IsChained s starts = (arcs_are_neighbours s is.shop starts).0 feasible.arcs in
    let apart : IsApart s starts = (capacities_keep_apart s is.shop starts (feasible.each_started ∙ count_is s)).0 feasible.capacities in
    record { arcs = arcs chained; pairs = pairs apart; cliques = cliques apart }
  where
    cliques : IsApart s starts → All (KeepsClique g starts) g.cliques.items
    cliques apart k v below = clique_kept s g starts (get_or g.cliques.items k v) is (is.cliques k v below) apart

    arcs : IsChained s starts → All (KeepsArc g starts) g.arcs.items
    arcs chained k p below =
        let arc : IsArcOf s (get_or g.arcs.items k p) = is.arcs k p below in
        let first : ℕ = (get_or g.arcs.items k p).first in
        let order : get_or starts first 0 + time_of s first ≤ get_or starts (suc first) 0 = chained first (omega (arith, arc.next, arc.inside)) (ap (job_of s) (sym arc.next) ∙ arc.one_job) in
        omega (arith, order, time_is s g is first, ap (λ i. get_or starts i 0) arc.next)

    pairs : IsApart s starts → All (KeepsApart g starts) g.pairs.items
    pairs apart k p below =
        let pair : IsPairOf s (get_or g.pairs.items k p) = is.pairs k p below in
        let first : ℕ = (get_or g.pairs.items k p).first in
        let second : ℕ = (get_or g.pairs.items k p).second in
        elim (apart first second pair.rising pair.inside pair.compete.machine pair.compete.one_lasts pair.compete.other_lasts) [
          | inl before ↦ inl (omega (arith, before, time_is s g is first))
          | inr after ↦ inr (omega (arith, after, time_is s g is second))
        ]

-- starts with a makespan below a limit end before the limit
pub below_limit : (s : JobShop) (g : Graph) (limit : ℕ) (starts : List ℕ) → IsGraphOf s g → IsFeasible (problem_of s) starts → makespan (problem_of s) starts < limit → IsBelow g limit starts
below_limit s g limit starts is feasible below x = elim (cases_lt x (count_steps s)) [
  | inl inside ↦
      let inner : x < count (problem_of s) = omega (arith, inside, count_is s) in
      omega (arith, below, greatest_above (count (problem_of s)) (λ i. get_or starts i 0 + duration (problem_of s) i) x inner, duration_is s x, time_is s g is x)
  | inr past ↦
      let no_start : get_or starts x 0 ≡ 0 = get_or_past starts x 0 (omega (arith, past, feasible.each_started, count_is s)) in
      let no_time : time_of s x ≡ 0 = ap (λ (w : Step). w.time) (get_or_past s.steps x idle past) in
      omega (arith, below, no_start, no_time, time_is s g is x)
]

-- a limit that is refuted for the graph is a lower bound for the shop
pub refuted_bound : (s : JobShop) (g : Graph) (limit : ℕ) → IsGraphOf s g → NoneIsBelow g limit → IsLowerBound s limit
refuted_bound s g limit is none starts feasible = elim (cases_lt (makespan (problem_of s) starts) limit) [
  | inl below ↦ absurd (none starts (kept_in s g starts is feasible) (below_limit s g limit starts is feasible below))
  | inr least ↦ least
]

-- the steps of positive time of a machine with one more step, if it is one of them
pub lasting_more : (s : JobShop) (m x : ℕ) (before new : List ℕ) → before ≡ those_below x (lasts_on s m) → lasts_on s m x ≡ true → new ≡ before ++ x ∷ [] → new ≡ those_below (x + 1) (lasts_on s m)
lasting_more s m x before new is lasts pushed = rw add-one
    (pushed ∙ ap (λ (xs : List ℕ). xs ++ x ∷ []) is ∙ ap (λ (xs : List ℕ). those_below x (lasts_on s m) ++ xs) (sym (cond-true (lasts_on s m x) (x ∷ []) [] lasts)))

-- and if it isn't
pub lasting_same : (s : JobShop) (m x : ℕ) (before new : List ℕ) → before ≡ those_below x (lasts_on s m) → lasts_on s m x ≡ false → new ≡ before → new ≡ those_below (x + 1) (lasts_on s m)
lasting_same s m x before new is lasts same = rw add-one
    (same ∙ is ∙ sym (ap (λ (xs : List ℕ). those_below x (lasts_on s m) ++ xs) (cond-false (lasts_on s m x) (x ∷ []) [] lasts) ∙ append-nil (those_below x (lasts_on s m))))

-- a search that has used nodes is a search of the same shop
pub same_search : (s : JobShop) (old new : Search) → HasTaken old new → IsSearchOf s old → IsSearchOf s new
same_search s old new taken is = record {
  graph = subst (λ (g : Graph). IsGraphOf s g) (sym taken.graph) is.graph;
  proof = subst (λ (p : Proof). IsProofOf s p) (sym taken.proof) is.proof;
  left = omega (arith, taken.left, taken.most, is.left);
}
