-- Broken arcs, usage and left shifts in the problem of a shop.
use Rattle.std.proofs.Common.{◌≡◌, ◌≢◌, ℕ, suc, ◌+◌, ◌≤◌, ◌<◌, max, cond, nat_eq, ◌⊎◌, inl, inr, List, length, get_or, refl, sym, ◌∙◌, ap, arith}
use Rattle.std.specs.List.{All, Contains}
use Rattle.std.proofs.lemmas.Bool.{cases_lt, cases_eq, cases_order, cond-true, cond-false, eq-eqb, ne_eqb, eqb-true}
use Rattle.std.proofs.lemmas.List.{get_or-map, length-map, length-replicate, get_or-replicate}
use Rattle.std.proofs.lemmas.List.Elements.{All-map, All-weaker, All-contains, All-contains_itself}
use Rattle.plan_sgs.specs.Problem.{Problem, Link, count, duration, need, capacity, total, usage, all_placed, KeepsArcs, IsFeasible}
use Rattle.plan_sgs.specs.Verdicts.{Breaks, IsNoLater, IsFirstBroken, IsOver}
use Rattle.plan_sgs.proofs.AmountLemmas.{amount_before, amount_during}
use Rattle.plan_sgs.proofs.TotalLemmas.{total_above, total_none}
use Rattle.plan_sgs.proofs.StartLemmas.{amount_at, amount_late, amount_most, usage_is}
use Rattle.plan_sgs.proofs.Shifts.{IsReleasedBy, FitsBeforeStart, CanStartAt}
use Rattle.plan_shop.specs.Shop.{JobShop, IsShop, count_steps, idle, time_of, machine_of, job_of, those_below, step_link, problem_of}
use Rattle.plan_shop.specs.Laws.{ArcsAreNeighbours, NeedsAreMachines}
use Rattle.plan_shop.specs.Checks.{IsBrokenAfter, IsUnderWayAt, IsReleaseOf, IsInTheWay, IsEndInTheWay}
use Rattle.plan_shop.proofs.NumberLemmas.{there_passes, passes_there}
use Rattle.plan_shop.proofs.ShopBasics.{arcs_are_neighbours, needs_are_machines, count_is, duration_is}

-- a fact of each neighbours' link is a fact of each link
pub links_have : (s : JobShop) (P : Link → Type 0) → ((x : ℕ) → x < count_steps s → job_of s (suc x) ≡ job_of s x → P (step_link x)) → All P (problem_of s).links
unfolding problem_of
links_have s P each =
    let xs = those_below (count_steps s) (λ x. nat_eq (job_of s (suc x)) (job_of s x)) in
    All-map P step_link xs
    (All-weaker (Contains xs) (λ x. P (step_link x)) (λ x there.
    let t = there_passes (count_steps s) (λ x. nat_eq (job_of s (suc x)) (job_of s x)) x there in
    each x t.0 (eqb-true (job_of s (suc x)) (job_of s x) t.1)) xs (All-contains_itself xs))

-- each step with one after it in its job has its link
pub link_there : (s : JobShop) (x : ℕ) → x < count_steps s → job_of s (suc x) ≡ job_of s x → Contains (problem_of s).links (step_link x)
unfolding problem_of
link_there s x below same =
    let xs = those_below (count_steps s) (λ x. nat_eq (job_of s (suc x)) (job_of s x)) in
    let there = passes_there (count_steps s) (λ x. nat_eq (job_of s (suc x)) (job_of s x)) x below (eq-eqb (job_of s (suc x)) (job_of s x) same) in
    (there.0, omega (arith, there.1, length-map xs step_link), get_or-map step_link xs there.0 x (step_link x) there.1 ∙ ap step_link there.2)

-- starts that break no arc keep all
pub kept_arcs : (s : JobShop) → IsShop s → (starts : List ℕ) → ((x : ℕ) → x < count_steps s → IsBrokenAfter s starts x → ⊥) → KeepsArcs (problem_of s) starts
unfolding ArcsAreNeighbours
kept_arcs s shop starts none = (arcs_are_neighbours s shop starts).1 (λ x below same.
    elim (cases_lt (get_or starts (suc x) 0) (get_or starts x 0 + time_of s x)) [
      | inl early ↦ absurd (none x (omega (arith, below)) (same, early))
      | inr order ↦ order
    ])

-- the first broken arc is that of the first step that is followed too soon
pub broken_first : (s : JobShop) (starts : List ℕ) (x : ℕ) → x < count_steps s → IsBrokenAfter s starts x →
    ((h : ℕ) → h < x → IsBrokenAfter s starts h → ⊥) → IsFirstBroken (problem_of s) starts x (suc x)
broken_first s starts x below broken none = record {
  broken = (step_link x, link_there s x below broken.0, omega (arith, broken.1, duration_is s x), refl, refl);
  first = links_have s (λ a. Breaks (problem_of s) starts a → IsNoLater x (suc x) a.from a.to) later;
} where
  later : (h : ℕ) → h < count_steps s → job_of s (suc h) ≡ job_of s h → Breaks (problem_of s) starts (step_link h) → IsNoLater x (suc x) h (suc h)
  later h inside same breaks = elim (cases_order x h) [
    | inl equal ↦ inr (equal, omega (arith, equal))
    | inr (inl before) ↦ inl before
    | inr (inr after) ↦ absurd (none h after (same, omega (arith, breaks, duration_is s h)))
  ]

-- the need of a step for a machine
need_of : (s : JobShop) (x k : ℕ) → x < count_steps s → need (problem_of s) x k ≡ cond (nat_eq (machine_of s x) k) 1 0
unfolding NeedsAreMachines
need_of s x k l = needs_are_machines s x k l

need_here : (s : JobShop) (x k : ℕ) → x < count_steps s → machine_of s x ≡ k → need (problem_of s) x k ≡ 1
need_here s x k below same = need_of s x k below ∙ cond-true (nat_eq (machine_of s x) k) 1 0 (eq-eqb (machine_of s x) k same)

need_there : (s : JobShop) (x k : ℕ) → x < count_steps s → machine_of s x ≢ k → need (problem_of s) x k ≡ 0
need_there s x k below other = need_of s x k below ∙ cond-false (nat_eq (machine_of s x) k) 1 0 (ne_eqb (machine_of s x) k other)

-- a step that is under way on a machine uses 1
pub under_way_one : (s : JobShop) (starts : List ℕ) (t k x : ℕ) → x < count_steps s → IsUnderWayAt s starts t k x → amount_at (problem_of s) starts t k x ≡ 1
under_way_one s starts t k x below (same, since, before) =
    amount_during (problem_of s) t k x (get_or starts x 0) since (omega (arith, before, duration_is s x)) ∙ need_here s x k below same

-- any other step uses 0
pub not_under_way : (s : JobShop) (starts : List ℕ) (t k x : ℕ) → x < count_steps s → (IsUnderWayAt s starts t k x → ⊥) → amount_at (problem_of s) starts t k x ≡ 0
not_under_way s starts t k x below not = elim (cases_lt t (get_or starts x 0)) [
  | inl early ↦ amount_before (problem_of s) t k x (get_or starts x 0) early
  | inr since ↦ elim (cases_lt t (get_or starts x 0 + time_of s x)) [
    | inr late ↦ amount_late (problem_of s) t k x (get_or starts x 0) (omega (arith, late, duration_is s x))
    | inl before ↦ elim (cases_eq (machine_of s x) k) [
      | inl same ↦ absurd (not (same, since, before))
      | inr other ↦ omega (arith, need_there s x k below other, amount_most (problem_of s) t k x (get_or starts x 0))
    ]
  ]
]

-- the end of the step before it in its job releases a step, and no earlier instant does
pub release_releases : (s : JobShop) (starts : List ℕ) (x r : ℕ) → IsReleaseOf s starts x r → IsReleasedBy (problem_of s) starts x r
release_releases s starts x r release = links_have s (λ a. a.to ≡ x → a.from ≢ x → get_or starts a.from 0 + duration (problem_of s) a.from + a.lag ≤ r) (λ y below same to from.
    omega (arith, release.above y to (ap (job_of s) (sym to) ∙ same), duration_is s y))

pub release_least : (s : JobShop) (starts : List ℕ) (x r t : ℕ) → x < count_steps s → IsReleaseOf s starts x r → IsReleasedBy (problem_of s) starts x t → r ≤ t
release_least s starts x r t below release by = least release.reached where
  least : (r ≡ 0) ⊎ ((y : ℕ) × (suc y ≡ x) × (job_of s x ≡ job_of s y) × (r ≡ get_or starts y 0 + time_of s y)) → r ≤ t
  least (inl none) = omega (arith, none)
  least (inr (y, next, same, is)) =
      let kept : get_or starts y 0 + duration (problem_of s) y + 0 ≤ t =
      All-contains (λ (a : Link). a.to ≡ x → a.from ≢ x → get_or starts a.from 0 + duration (problem_of s) a.from + a.lag ≤ t) (problem_of s).links (step_link y) by
      (link_there s y (omega (arith, below, next)) (ap (job_of s) next ∙ same)) next (λ e. omega (arith, e, next)) in
      omega (arith, kept, is, duration_is s y)

-- a later instant releases too
pub released_later : (p : Problem) (s : List ℕ) (j t u : ℕ) → IsReleasedBy p s j t → t ≤ u → IsReleasedBy p s j u
released_later p s j t u by later n d within to from = omega (arith, by n d within to from, later)

-- the capacity of each machine, and that each step is on one
machine_count : (s : JobShop) → length (problem_of s).capacities ≡ s.machines
unfolding problem_of
machine_count s = length-replicate {A = ℕ} s.machines 1

one_of_each : (s : JobShop) (k : ℕ) → k < length (problem_of s).capacities → capacity (problem_of s) k ≡ 1
unfolding problem_of
one_of_each s k within = get_or-replicate s.machines k 1 0 (omega (arith, within, length-replicate {A = ℕ} s.machines 1))

on_machine : (s : JobShop) → IsShop s → (x : ℕ) → x < count_steps s → machine_of s x < length (problem_of s).capacities
on_machine s shop x below = omega (arith, shop.on_machines x idle below, machine_count s)

-- several steps under way are an overload, and one step isn't
pub over_from : (s : JobShop) (starts : List ℕ) (t k used : ℕ) → k < s.machines → used ≡ usage (problem_of s) (all_placed starts) t k → 1 < used → IsOver (problem_of s) starts t k
over_from s starts t k used inside is more =
    let within : k < length (problem_of s).capacities = omega (arith, inside, machine_count s) in
    record { inside = within; more = omega (arith, is, more, one_of_each s k within) }

pub not_over : (s : JobShop) (starts : List ℕ) (t k used : ℕ) → used ≡ usage (problem_of s) (all_placed starts) t k → used ≤ 1 → IsOver (problem_of s) starts t k → ⊥
not_over s starts t k used is few over =
    let more : capacity (problem_of s) k < usage (problem_of s) (all_placed starts) t k = over.more in
    omega (arith, is, few, more, one_of_each s k over.inside)

-- an overloaded machine is one of the shop's
pub over_inside : (s : JobShop) (starts : List ℕ) (t k : ℕ) → IsOver (problem_of s) starts t k → k < s.machines
over_inside s starts t k over = omega (arith, over.inside, machine_count s)

-- if a step is in the way, no instant before its end is a possible start
pub behind_way : (s : JobShop) (starts : List ℕ) (x at y t : ℕ) → IsShop s → length starts ≡ count_steps s →
    x < count_steps s → y < count_steps s → IsInTheWay s starts x at y → at ≤ t →
    CanStartAt (problem_of s) starts x t → get_or starts y 0 + time_of s y ≤ t
behind_way s starts x at y t shop whole below other (same, long, lasts, before, over, late) order can = elim (cases_lt t (get_or starts y 0 + time_of s y)) [
  | inr after ↦ after
  | inl under ↦
      let p = problem_of s in
      let m = machine_of s x in
      let u = max t (get_or starts y 0) in
      let early : t < get_or starts x 0 = can.earlier in
      let low : m < length p.capacities = on_machine s shop x below in
      let room : usage p (all_placed starts) u m + need p x m ≤ capacity p m = can.fits u m (omega arith) (omega (arith, long, over, order, duration_is s x)) (omega (arith, early, before)) low in
      let one : amount_at p starts u m y ≡ 1 = under_way_one s starts u m y other (same, omega arith, omega (arith, under, lasts)) in
      let most : amount_at p starts u m y ≤ total (count p) (amount_at p starts u m) = total_above (count p) (amount_at p starts u m) y (omega (arith, other, count_is s)) in
      absurd (omega (arith, room, one, most, usage_is p starts u m (whole ∙ sym (count_is s)), need_here s x m below refl, one_of_each s m low))
]

-- the end of a step in the way is later, and no start is possible before it
pub end_later : (s : JobShop) (starts : List ℕ) (x at e : ℕ) → IsEndInTheWay s starts x at e → at ≤ e
end_later s starts x at e (y, other, (same, long, lasts, before, over, late), is) = omega (arith, late, is)

pub end_behind : (s : JobShop) (starts : List ℕ) (x at e t : ℕ) → IsShop s → length starts ≡ count_steps s →
    x < count_steps s → IsEndInTheWay s starts x at e → at ≤ t → CanStartAt (problem_of s) starts x t → e ≤ t
end_behind s starts x at e t shop whole below (y, other, way, is) order can = omega (arith, is, behind_way s starts x at y t shop whole below other way order can)

-- with none in the way a released step can start at an instant before its start
pub free_way : (s : JobShop) (starts : List ℕ) (x at : ℕ) → x < count_steps s →
    IsFeasible (problem_of s) starts → at < get_or starts x 0 → IsReleasedBy (problem_of s) starts x at →
    ((y : ℕ) → y < count_steps s → IsInTheWay s starts x at y → ⊥) → CanStartAt (problem_of s) starts x at
free_way s starts x at below feasible early released none = record { earlier = early; released = released; fits = fits } where
  fits : FitsBeforeStart (problem_of s) starts x at
  fits u k since lasts before within = elim (cases_eq (machine_of s x) k) [
    | inr other ↦ omega (arith, need_there s x k below other, feasible.capacities u k within)
    | inl same ↦
        let free : total (count (problem_of s)) (amount_at (problem_of s) starts u k) ≡ 0 = total_none (count (problem_of s)) (amount_at (problem_of s) starts u k) (λ y inside.
        let inside' : y < count_steps s = omega (arith, inside, count_is s) in
        not_under_way s starts u k y inside' (λ way. none y inside' (
          way.0 ∙ sym same,
          omega (arith, since, lasts, duration_is s x),
          omega (arith, way.1, way.2),
          omega (arith, way.1, before),
          omega (arith, way.1, lasts, duration_is s x),
          omega (arith, since, way.2),
        ))) in
        omega (arith, free, usage_is (problem_of s) starts u k feasible.each_started, need_here s x k below same, one_of_each s k within)
  ]
