-- Overloads: where they begin, and that they leave no plan.
use Rattle.std.proofs.Common.{◌≡◌, ◌∙◌, ℕ, zero, suc, ◌+◌, ◌-◌, ◌≤◌, ◌<◌, ◌&&◌, ◌⊎◌, inl, inr, List, [], ◌∷◌, Option, Some, None, Contains, cond, nat_eq}
use Rattle.std.proofs.Common.{nat_le, nat_lt, length, get_or, refl, sym, ap, subst, arith}
use Rattle.std.specs.List.{sum_by}
use Rattle.std.specs.Option.{IfSome, IfNone}
use Rattle.std.proofs.lemmas.Bool.{cases_lt, cases_eq, cond-true, cond-false, cond_both, and_from, and_left, and_right, le-leb, lt-leb, lt-ltb, le-ltb}
use Rattle.std.proofs.lemmas.List.Sums.{sum_by-cons}
use Rattle.plan_sgs.specs.Problem.{count, need, capacity, total}
use Rattle.plan_sgs.proofs.TotalLemmas.{total_rise, total_grows}
use Rattle.plan_sgs.proofs.StartLemmas.{total_next, total_longer}
use Rattle.plan_kernel.specs.declared.input.Absence.{Absence}
use Rattle.plan_kernel.specs.Plans.{taken_by}
use Rattle.plan_kernel.proofs.PlanLemmas.{taken_during, taken_before, taken_late, taken_elsewhere}
use Rattle.plan_week.specs.declared.overload.Overload.{Overload}
use Rattle.plan_week.specs.declared.week.State.{State}
use Rattle.plan_week.specs.declared.week.State.TheVariants.{Open, Begun, Done}
use Rattle.plan_week.specs.declared.week.Week.{Week}
use Rattle.plan_week.specs.Weeks.{project_of, state_of, rest_of, end_of, needed_by, needed, missing, no_absence, KeepsState, IsWeekPlan}
use Rattle.plan_week.specs.Overloads.{settled_start, held_from, held_by, held, IsOverload, IsSettled, IsLeaving, BeginsAt, IsFirstOf, IsFoundOf, IsEarlier}
use Rattle.plan_week.specs.Overloads.{IsFirstOverload, HasNoOverload, OverloadsLeaveNoPlan}

-- the amount that an activity holds from a start on
pub held_none : (week : Week) (t k i start : ℕ) → (t < start) ⊎ (start + rest_of week i ≤ t) → held_from week t k i (Some start) ≡ 0
held_none week t k i start (inl early) =
    cond-false (nat_le start t && nat_lt t (start + rest_of week i)) (need (project_of week) i k) 0
    (and_left (nat_le start t) (nat_lt t (start + rest_of week i)) (lt-leb start t early))
held_none week t k i start (inr late) =
    cond-false (nat_le start t && nat_lt t (start + rest_of week i)) (need (project_of week) i k) 0
    (and_right (nat_le start t) (nat_lt t (start + rest_of week i)) (le-ltb t (start + rest_of week i) late))

pub held_all : (week : Week) (t k i start : ℕ) → start ≤ t → t < start + rest_of week i → held_from week t k i (Some start) ≡ need (project_of week) i k
held_all week t k i start since before =
    cond-true (nat_le start t && nat_lt t (start + rest_of week i)) (need (project_of week) i k) 0
    (and_from (nat_le start t) (nat_lt t (start + rest_of week i)) (le-leb start t since) (lt-ltb t (start + rest_of week i) before))

-- it grows only at the start
held_rise : (week : Week) (t k i : ℕ) (o : Option ℕ) → held_from week t k i o < held_from week (suc t) k i o → o ≡ Some (suc t)
held_rise week t k i None rise = absurd (omega (arith, rise))
held_rise week t k i (Some start) rise = elim (cases_lt (suc t) start) [
  | inl later ↦ absurd (omega (arith, rise, held_none week (suc t) k i start (inl later)))
  | inr since ↦ elim (cases_lt t start) [
    | inl here ↦ let is : start ≡ suc t = omega (arith, here, since) in ap (λ (x : ℕ). Some x) is
    | inr before ↦ elim (cases_lt (suc t) (start + rest_of week i)) [
      | inl lasts ↦ absurd (omega (arith, rise, held_all week t k i start before (omega (arith, lasts)), held_all week (suc t) k i start since lasts))
      | inr over ↦ absurd (omega (arith, rise, held_none week (suc t) k i start (inr over)))
    ]
  ]
]

-- an absence takes more than at the instant before only where it begins
absence_rise : (t k : ℕ) (a : Absence) → taken_by t k a < taken_by (suc t) k a → a.from ≡ suc t
absence_rise t k a rise = elim (cases_eq a.resource k) [
  | inr apart ↦ absurd (omega (arith, rise, taken_elsewhere (suc t) k a apart))
  | inl same ↦ elim (cases_lt (suc t) a.from) [
    | inl early ↦ absurd (omega (arith, rise, taken_before (suc t) k a early))
    | inr since ↦ elim (cases_lt t a.from) [
      | inl here ↦ omega (arith, here, since)
      | inr before ↦ elim (cases_lt (suc t) a.until) [
        | inl lasts ↦ absurd (omega (arith, rise, taken_during t k a same before (omega (arith, lasts)), taken_during (suc t) k a same since lasts))
        | inr over ↦ absurd (omega (arith, rise, taken_late (suc t) k a over))
      ]
    ]
  ]
]

absences_rise : (t k : ℕ) (xs : List Absence) → sum_by (taken_by t k) xs < sum_by (taken_by (suc t) k) xs
    → (j : ℕ) × (j < length xs) × ((get_or xs j no_absence).from ≡ suc t)
absences_rise t k [] rise = absurd (omega (arith, rise))
absences_rise t k (a ∷ xs) rise = elim (cases_lt (taken_by t k a) (taken_by (suc t) k a)) [
  | inl here ↦ (0, omega arith, absence_rise t k a here)
  | inr not_here ↦
      let rest = absences_rise t k xs (omega (arith, rise, not_here, sum_by-cons (taken_by t k) a xs, sum_by-cons (taken_by (suc t) k) a xs)) in
      (suc rest.0, omega (arith, rest.1), rest.2)
]

-- an overload has begun today, with something that can't be moved, or with an absence
pub overload_begins : (week : Week) (k t : ℕ) → IsOverload week k t → (c : ℕ) × (c ≤ t) × IsOverload week k c × BeginsAt week c
overload_begins week k zero over = (0, omega arith, over, inl (omega (arith, over.since)))
overload_begins week k (suc t) over = elim (cases_lt t week.today) [
  | inl first ↦ (suc t, omega arith, over, inl (omega (arith, first, over.since)))
  | inr since ↦ elim (cases_lt (capacity (project_of week) k) (held week t k + missing week t k)) [
    | inl before ↦
        let rest = overload_begins week k t (record { since = since; resource = over.resource; above = before }) in
        (rest.0, omega (arith, rest.1), rest.2, rest.3)
    | inr fitted ↦ elim (cases_lt (held week t k) (held week (suc t) k)) [
      | inl rise ↦
          let one = total_rise (count (project_of week)) (held_by week t k) (held_by week (suc t) k) rise in
          let starts : settled_start week.today (state_of week one.0) ≡ Some (suc t) = held_rise week t k one.0 (settled_start week.today (state_of week one.0)) one.2 in
          (suc t, omega arith, over, inr (inl (one.0, one.1, starts)))
      | inr not_held ↦
          (suc t, omega arith, over, inr (inr (absences_rise t k week.absences.items (omega (arith, fitted, not_held, over.above)))))
    ]
  ]
]

-- the amount that can't be moved is part of every plan
held_most : (week : Week) (starts : List ℕ) (t k i : ℕ) (s : State) → KeepsState week.today (get_or starts i 0) s
    → held_from week t k i (settled_start week.today s) ≤ needed_by week starts t k i
held_most week starts t k i (Open earliest None) kept = omega arith
held_most week starts t k i (Open earliest (Some fixed)) kept =
    omega (arith, ap (λ (x : ℕ). cond (nat_le x t && nat_lt t (x + rest_of week i)) (need (project_of week) i k) 0) kept.2)
held_most week starts t k i (Begun began remaining) kept =
    omega (arith, ap (λ (x : ℕ). cond (nat_le x t && nat_lt t (x + rest_of week i)) (need (project_of week) i k) 0) kept)
held_most week starts t k i (Done ended) kept = omega arith

pub overloads_leave_no_plan : OverloadsLeaveNoPlan
unfolding OverloadsLeaveNoPlan
overloads_leave_no_plan week k t starts over plan =
    omega (
      arith,
      over.above,
      plan.fits t k over.since over.resource,
      total_grows (count (project_of week)) (held_by week t k) (needed_by week starts t k)
          (λ i inside. held_most week starts t k i (state_of week i) (plan.states i inside)),
    )

-- the earlier one of two first overloads is the first one of those at all instants of both
pub found_any : (week : Week) (P Q R : ℕ → Type 0) (one other result : Option Overload) → IsFoundOf week P one → IsFoundOf week Q other → IsEarlier one other result
    → ((t : ℕ) → R t → P t ⊎ Q t) → IsFoundOf week R result
found_any week P Q R None None result none nor is split = subst (λ (o : Option Overload). IsFoundOf week R o) (sym is)
    (λ k t in_r over. elim (split t in_r) [ inl in_p ↦ none k t in_p over | inr in_q ↦ nor k t in_q over ])
found_any week P Q R None (Some second) result none found is split = subst (λ (o : Option Overload). IsFoundOf week R o) (sym is) (record {
  here = found.here;
  first = λ k t in_r over. elim (split t in_r) [ inl in_p ↦ absurd (none k t in_p over) | inr in_q ↦ found.first k t in_q over ];
  least = found.least;
})
found_any week P Q R (Some first) None result found none is split = subst (λ (o : Option Overload). IsFoundOf week R o) (sym is) (record {
  here = found.here;
  first = λ k t in_r over. elim (split t in_r) [ inl in_p ↦ found.first k t in_p over | inr in_q ↦ absurd (none k t in_q over) ];
  least = found.least;
})
found_any week P Q R (Some first) (Some second) result one other is split = elim (cases_lt second.instant first.instant) [
  | inl later ↦ subst (λ (o : Option Overload). IsFoundOf week R o) (sym (is.1 later)) (record {
    here = other.here;
    first = λ k t in_r over. elim (split t in_r) [ inl in_p ↦ omega (arith, one.first k t in_p over, later) | inr in_q ↦ other.first k t in_q over ];
    least = other.least;
  })
  | inr sooner ↦ subst (λ (o : Option Overload). IsFoundOf week R o) (sym (is.0 sooner)) (record {
    here = one.here;
    first = λ k t in_r over. elim (split t in_r) [ inl in_p ↦ one.first k t in_p over | inr in_q ↦ omega (arith, other.first k t in_q over, sooner) ];
    least = one.least;
  })
]

-- the first one at some instants is the first one at less of them
pub found_same : (week : Week) (P Q : ℕ → Type 0) (found : Option Overload) → IsFoundOf week P found → ((t : ℕ) → Q t → P t) → IsFoundOf week Q found
found_same week P Q None none less = λ k t in_q over. none k t (less t in_q) over
found_same week P Q (Some overload) found less = record {
  here = found.here;
  first = λ k t in_q over. found.first k t (less t in_q) over;
  least = found.least;
}

-- the first of those that have begun is the first one
pub first_of_all : (week : Week) (overload : Overload) → IsFirstOf week (BeginsAt week) overload → IsFirstOverload week overload
first_of_all week overload found = record {
  here = found.here;
  first = λ k t _ over.
      let begun = overload_begins week k t over in
      omega (arith, found.first k begun.0 begun.3 begun.2, begun.1);
  least = found.least;
}

pub none_of_all : (week : Week) → IsFoundOf week (BeginsAt week) None → HasNoOverload week
none_of_all week none k t over = let begun = overload_begins week k t over in none k begun.0 begun.3 begun.2

-- those below one place more
pub below_or_at : (n : ℕ) (P : ℕ → ℕ → Type 0) (t : ℕ) → ((i : ℕ) × (i < n + 1) × P i t) → ((i : ℕ) × (i < n) × P i t) ⊎ P n t
below_or_at n P t (i, below, holds) = elim (cases_eq i n) [
  | inl same ↦ inr (subst (λ (j : ℕ). P j t) same holds)
  | inr other ↦ inl (i, omega (arith, below, other), holds)
]

-- the result of a search for the first overload
pub found_some : (week : Week) (found : Option Overload) → IsFoundOf week (BeginsAt week) found → IfSome found (IsFirstOverload week)
found_some week None found = tt
found_some week (Some overload) found = first_of_all week overload found

pub found_none : (week : Week) (found : Option Overload) → IsFoundOf week (BeginsAt week) found → IfNone found (HasNoOverload week)
found_none week None found = none_of_all week found
found_none week (Some overload) found = tt

-- the need of one more activity is above the rest of the capacity
pub above_with : (week : Week) (t k i used more : ℕ) → i < count (project_of week) → used ≡ missing week t k + total i (held_by week t k) → more ≡ held_by week t k i
    → used ≤ capacity (project_of week) k → capacity (project_of week) k - used < more → capacity (project_of week) k < held week t k + missing week t k
above_with week t k i used more inside sum is most over =
    omega (
      arith,
      sum,
      is,
      most,
      over,
      total_next i (held_by week t k),
      total_longer (i + 1) (count (project_of week)) (held_by week t k) (omega (arith, inside)),
    )

-- the need of all of them is within the capacity
pub within_all : (week : Week) (t k n used : ℕ) → n ≡ count (project_of week) → used ≡ missing week t k + total n (held_by week t k) → used ≤ capacity (project_of week) k
    → held week t k + missing week t k ≤ capacity (project_of week) k
within_all week t k n used all sum most = omega (arith, sum, most, ap (λ (m : ℕ). total m (held_by week t k)) all)

-- the first resource with an overload at an instant
pub found_here : (week : Week) (k t : ℕ) → week.today ≤ t → k < length (project_of week).capacities → capacity (project_of week) k < held week t k + missing week t k
    → ((j : ℕ) → j < k → IsOverload week j t → ⊥) → IsFoundOf week (λ x. x ≡ t) (Some (record { resource = k; instant = t }))
found_here week k t since inside above before = record {
  here = record { since = since; resource = inside; above = above };
  first = λ j x is over. omega (arith, is);
  least = λ j over. elim (cases_lt j k) [ inl less ↦ absurd (before j less over) | inr most ↦ most ];
}

-- no resource has one
pub none_here : (week : Week) (n t : ℕ) → length (project_of week).capacities ≤ n → ((j : ℕ) → j < n → IsOverload week j t → ⊥) → IsFoundOf week (λ x. x ≡ t) None
none_here week n t all before j x is over =
    let here : IsOverload week j t = subst (λ (y : ℕ). IsOverload week j y) is over in
    before j (omega (arith, here.resource, all)) here
