-- The parts of a scheduling problem that come from its project.
use Rattle.std.proofs.Common.{ℕ, ◌≡◌, ◌+◌, ◌-◌, ◌≤◌, ◌<◌, ◌⊎◌, inl, inr, List, [], get_or, Some, refl, sym, ◌∙◌, ap, subst, arith}
use Rattle.std.specs.List.{slice_get, EachIndex}
use Rattle.std.proofs.lemmas.Bool.{cases_lt, cases_eq, cases_order}
use Rattle.std.proofs.lemmas.Option.{get_or_from_slice_get}
use Rattle.plan_net.specs.Network.{duration_of, count_of}
use Rattle.plan_sgs.specs.Problem.{count, duration, need, capacity, IsTooMuch, IsFirstTooMuch, NeedsFit}
use Rattle.plan_sgs.specs.Instances.{Planned, problem_of, IsFirstAbove}

pub count-problem : (i : Planned) → count (problem_of i) ≡ count_of i.project.network
unfolding problem_of
count-problem i = refl

pub capacities-problem : (i : Planned) → (problem_of i).capacities ≡ i.capacities
unfolding problem_of
capacities-problem i = refl

-- the duration at a place is that of its activity
pub duration-problem : (i : Planned) (h j : ℕ) → j ≡ h + 1 → duration (problem_of i) h ≡ duration_of i.project.network j
unfolding problem_of
duration-problem i h j is = let place : h ≡ j - 1 = omega (arith, is) in ap (λ (x : ℕ). get_or i.project.network.durations x 0) place

-- the needs at a place are those of its activity
pub need-problem : (i : Planned) (h j : ℕ) (row : List ℕ) → j ≡ h + 1 → slice_get i.project.needs (j - 1) ≡ Some row → (q : ℕ) → need (problem_of i) h q ≡ get_or row q 0
unfolding problem_of
need-problem i h j row is here q =
    let place : h ≡ j - 1 = omega (arith, is) in
    let same : get_or i.project.needs h [] ≡ row = ap (λ (x : ℕ). get_or i.project.needs x []) place ∙ get_or_from_slice_get i.project.needs (j - 1) row [] here in
    ap (λ (xs : List ℕ). get_or xs q 0) same

-- the first need that is too much of the first activity that has one
pub too_much_here : (i : Planned) (h k act res : ℕ) (row : List ℕ) → act ≡ h + 1 → res ≡ k + 1 →
    h < count_of i.project.network → 0 < duration_of i.project.network act →
    slice_get i.project.needs (act - 1) ≡ Some row → IsFirstAbove row i.capacities k
    → ((g q : ℕ) → g < h → IsTooMuch (problem_of i) g q → ⊥) → IsFirstTooMuch (problem_of i) act res
unfolding problem_of
too_much_here i h k act res row act_is res_is inside lasts here (within, above, first) none = (
  h,
  k,
  omega (arith, act_is),
  omega (arith, res_is),
  (inside, within, omega (arith, lasts, duration-problem i h act act_is), too_much),
  least,
) where
  too_much : capacity (problem_of i) k < need (problem_of i) h k
  too_much = rw (need-problem i h act row act_is here k) above

  least : (g q : ℕ) → IsTooMuch (problem_of i) g q → (h < g) ⊎ ((h ≡ g) × (k ≤ q))
  least g q more = elim (cases_order h g) [
    | inr (inl later) ↦ inl later
    | inr (inr before) ↦ absurd (none g q before more)
    | inl same ↦ elim (cases_lt q k) [
      | inr high ↦ inr (same, high)
      | inl low ↦
          let few : need (problem_of i) h q ≤ capacity (problem_of i) q = rw (need-problem i h act row act_is here q) (first q low) in
          let much : capacity (problem_of i) q < need (problem_of i) h q = subst (λ (x : ℕ). capacity (problem_of i) q < need (problem_of i) x q) (sym same) more.3 in
          absurd (omega (arith, few, much))
    ]
  ]

-- one more activity doesn't need too much, if all its needs are within the capacities
pub none_more : (i : Planned) (h act : ℕ) (row : List ℕ) → act ≡ h + 1 → slice_get i.project.needs (act - 1) ≡ Some row → EachIndex i.capacities (λ k. get_or row k 0 ≤ get_or i.capacities k 0)
    → ((g q : ℕ) → g < h → IsTooMuch (problem_of i) g q → ⊥) → (g q : ℕ) → g < h + 1 → IsTooMuch (problem_of i) g q → ⊥
unfolding problem_of
none_more i h act row act_is here within none g q low more = elim (cases_eq g h) [
  | inr other ↦ none g q (omega (arith, low, other)) more
  | inl same ↦
      let much : capacity (problem_of i) q < need (problem_of i) h q = subst (λ (x : ℕ). capacity (problem_of i) q < need (problem_of i) x q) same more.3 in
      let few : get_or row q 0 ≤ capacity (problem_of i) q = within q more.1 in
      omega (arith, much, few, need-problem i h act row act_is here q)
]

-- or if its duration is 0
pub none_more_short : (i : Planned) (h act : ℕ) → act ≡ h + 1 → duration_of i.project.network act ≤ 0 →
    ((g q : ℕ) → g < h → IsTooMuch (problem_of i) g q → ⊥) → (g q : ℕ) → g < h + 1 →
    IsTooMuch (problem_of i) g q → ⊥
none_more_short i h act act_is short none g q low more = elim (cases_eq g h) [
  | inr other ↦ none g q (omega (arith, low, other)) more
  | inl same ↦
      let lasts : 0 < duration (problem_of i) h = subst (λ (x : ℕ). 0 < duration (problem_of i) x) same more.2 in
      omega (arith, lasts, short, duration-problem i h act act_is)
]

-- if no activity needs too much, the needs fit
pub fit_from_none : (i : Planned) (n : ℕ) → count_of i.project.network ≤ n → ((g q : ℕ) → g < n → IsTooMuch (problem_of i) g q → ⊥) → NeedsFit (problem_of i)
fit_from_none i n all none h k inside lasts within = elim (cases_lt (capacity (problem_of i) k) (need (problem_of i) h k)) [
  | inl much ↦ absurd (none h k (omega (arith, all, inside, count-problem i)) (inside, within, lasts, much))
  | inr few ↦ few
]
