-- Plans: where more is in use and absent than there is, and problems without windows, absences and
-- tails.
use Rattle.std.proofs.Common.{◌≡◌, ◌≢◌, ◌∙◌, ℕ, zero, suc, ◌+◌, ◌≤◌, ◌<◌, ◌&&◌, inl, inr, List, [], ◌∷◌, Contains, cond, nat_eq, nat_le, nat_lt, take, length, get_or, refl, sym, ap, subst, arith}
use Rattle.std.specs.List.{All, sum_by}
use Rattle.std.proofs.lemmas.Bool.{cases_lt, cases_eq, cond-true, cond-false, cond_both, and_from, and_left, and_right, eq-eqb, ne_eqb, le-leb, lt-leb, lt-ltb, le-ltb}
use Rattle.std.proofs.lemmas.List.{get_or_past}
use Rattle.std.proofs.lemmas.List.Sums.{sum_by-cons}
use Rattle.std.proofs.lemmas.List.Elements.{All-contains}
use Rattle.plan_sgs.specs.Problem.{Problem, count, duration, capacity, total, greatest_below, usage, all_placed, makespan, IsFeasible, IsShortest}
use Rattle.plan_sgs.proofs.TotalLemmas.{total_none, total_rise, greatest_same}
use Rattle.plan_sgs.proofs.StartLemmas.{usage_is, amount_rise, amount_first}
use Rattle.plan_kernel.specs.declared.input.StartWindow.{StartWindow}
use Rattle.plan_kernel.specs.declared.input.Absence.{Absence}
use Rattle.plan_kernel.specs.declared.input.Input.{Input}
use Rattle.plan_kernel.specs.Inputs.{problem_of, amount_at}
use Rattle.plan_kernel.specs.Plans.{KeepsWindow, taken_by, absent, FitsFor, FitsAt, FitsAlways, FitsAtStarts, FitsAtAbsences, IsPlan, tail, reach_of, cost, IsLeastCost, IsLowerBound, Numbers, numbers_of, plain_numbers, HasSameNumbers, IsPlain, PlansAreFeasible, CostsAreMakespans, LeastCostsAreShortest, LowerBoundsAreOfMakespans}

-- an absence takes its amount while it lasts
pub taken_during : (t k : ℕ) (a : Absence) → a.resource ≡ k → a.from ≤ t → t < a.until → taken_by t k a ≡ a.amount
taken_during t k a same since before = cond-true (nat_eq a.resource k && (nat_le a.from t && nat_lt t a.until)) a.amount 0
    (and_from (nat_eq a.resource k) (nat_le a.from t && nat_lt t a.until) (eq-eqb a.resource k same)
    (and_from (nat_le a.from t) (nat_lt t a.until) (le-leb a.from t since) (lt-ltb t a.until before)))

-- nothing before it begins
pub taken_before : (t k : ℕ) (a : Absence) → t < a.from → taken_by t k a ≡ 0
taken_before t k a early = cond-false (nat_eq a.resource k && (nat_le a.from t && nat_lt t a.until)) a.amount 0
    (and_right (nat_eq a.resource k) (nat_le a.from t && nat_lt t a.until) (and_left (nat_le a.from t) (nat_lt t a.until) (lt-leb a.from t early)))

-- nothing from its end on
pub taken_late : (t k : ℕ) (a : Absence) → a.until ≤ t → taken_by t k a ≡ 0
taken_late t k a late = cond-false (nat_eq a.resource k && (nat_le a.from t && nat_lt t a.until)) a.amount 0
    (and_right (nat_eq a.resource k) (nat_le a.from t && nat_lt t a.until) (and_right (nat_le a.from t) (nat_lt t a.until) (le-ltb t a.until late)))

-- nothing of another resource
pub taken_elsewhere : (t k : ℕ) (a : Absence) → a.resource ≢ k → taken_by t k a ≡ 0
taken_elsewhere t k a apart = cond-false (nat_eq a.resource k && (nat_le a.from t && nat_lt t a.until)) a.amount 0
    (and_left (nat_eq a.resource k) (nat_le a.from t && nat_lt t a.until) (ne_eqb a.resource k apart))

-- never more than its amount
taken_most : (t k : ℕ) (a : Absence) → taken_by t k a ≤ a.amount
taken_most t k a =
    cond_both (nat_eq a.resource k && (nat_le a.from t && nat_lt t a.until)) a.amount 0 (λ x. x ≤ a.amount) (λ _. omega arith) (λ _. omega arith)

-- it takes more than at the instant before only where it begins
taken_rise : (t k : ℕ) (a : Absence) → taken_by t k a < taken_by (suc t) k a → a.from ≡ suc t
taken_rise t k a rise = elim (cases_lt t a.from) [
  | inr since ↦ elim (cases_eq a.resource k) [
    | inr apart ↦ absurd (omega (arith, rise, taken_elsewhere (suc t) k a apart))
    | inl same ↦ elim (cases_lt t a.until) [
      | inl before ↦ absurd (omega (arith, rise, taken_during t k a same since before, taken_most (suc t) k a))
      | inr late ↦ absurd (omega (arith, rise, taken_late (suc t) k a (omega (arith, late))))
    ]
  ]
  | inl early ↦ elim (cases_lt (suc t) a.from) [
    | inl still ↦ absurd (omega (arith, rise, taken_before (suc t) k a still))
    | inr here ↦ omega (arith, early, here)
  ]
]

-- if it takes something at instant 0, it begins there
taken_first : (k : ℕ) (a : Absence) → 0 < taken_by 0 k a → a.from ≡ 0
taken_first k a some = elim (cases_lt 0 a.from) [
  | inl early ↦ absurd (omega (arith, some, taken_before 0 k a early))
  | inr here ↦ omega (arith, here)
]

-- a sum of zeros
sum_none : (xs : List Absence) → sum_by (λ (a : Absence). 0) xs ≡ 0
sum_none [] = refl
sum_none (a ∷ xs) = omega (arith, sum_by-cons (λ (b : Absence). 0) a xs, sum_none xs)

-- if a sum is larger, one of its terms is
sum_rise : (f g : Absence → ℕ) (xs : List Absence) → sum_by f xs < sum_by g xs → (a : Absence) × Contains xs a × (f a < g a)
sum_rise f g [] rise = absurd (omega (arith, rise))
sum_rise f g (a ∷ xs) rise = elim (cases_lt (f a) (g a)) [
  | inl here ↦ (a, (0, omega arith, refl), here)
  | inr not_here ↦
      let rest = sum_rise f g xs (omega (arith, rise, not_here, sum_by-cons f a xs, sum_by-cons g a xs)) in
      (rest.0, (suc rest.1.0, omega (arith, rest.1.1), rest.1.2), rest.2)
]

-- where an activity starts at an instant, all resources fit there
fits_where_one_starts : (input : Input) (starts : List ℕ) (i t : ℕ) → length starts ≡ count (problem_of input) → i < count (problem_of input)
    → FitsAtStarts input starts → get_or starts i 0 ≡ t → FitsAt input starts t
fits_where_one_starts input starts i t whole inside at_starts here =
    subst (λ (x : ℕ). FitsAt input starts x) here (at_starts i 0 (omega (arith, inside, whole)))

-- where an absence begins, too
fits_where_one_begins : (input : Input) (starts : List ℕ) (a : Absence) (t : ℕ) → Contains input.absences.items a
    → FitsAtAbsences input starts → a.from ≡ t → FitsAt input starts t
fits_where_one_begins input starts a t there at_absences here =
    subst (λ (x : ℕ). FitsAt input starts x) here (All-contains (λ (b : Absence). FitsAt input starts b.from) input.absences.items a at_absences there)

-- what is in use and absent grows only at starts and where absences begin
fits_at : (input : Input) (starts : List ℕ) → length starts ≡ count (problem_of input) → FitsAtStarts input starts → FitsAtAbsences input starts
    → (t k : ℕ) → k < length (problem_of input).capacities → FitsFor input starts t k
fits_at input starts whole at_starts at_absences zero k inside =
    let p = problem_of input in
    elim (cases_lt 0 (usage p (all_placed starts) 0 k)) [
      | inl used ↦
          let none : total (count p) (λ i. 0) ≡ 0 = total_none (count p) (λ i. 0) (λ i below. refl) in
          let one = total_rise (count p) (λ i. 0) (amount_at p starts 0 k) (omega (arith, used, usage_is p starts 0 k whole, none)) in
          fits_where_one_starts input starts one.0 0 whole one.1 at_starts (amount_first p k one.0 (get_or starts one.0 0) one.2) k inside
      | inr idle ↦ elim (cases_lt 0 (absent input 0 k)) [
        | inl missing ↦
            let one = sum_rise (λ (a : Absence). 0) (taken_by 0 k) input.absences.items (omega (arith, missing, sum_none input.absences.items)) in
            fits_where_one_begins input starts one.0 0 one.1 at_absences (taken_first k one.0 one.2) k inside
        | inr none ↦ omega (arith, idle, none)
      ]
    ]
fits_at input starts whole at_starts at_absences (suc t) k inside =
    let p = problem_of input in
    let before : FitsFor input starts t k = fits_at input starts whole at_starts at_absences t k inside in
    elim (cases_lt (usage p (all_placed starts) t k) (usage p (all_placed starts) (suc t) k)) [
      | inl rise ↦
          let one = total_rise (count p) (amount_at p starts t k) (amount_at p starts (suc t) k) (omega (arith, rise, usage_is p starts t k whole, usage_is p starts (suc t) k whole)) in
          fits_where_one_starts input starts one.0 (suc t) whole one.1 at_starts (amount_rise p t k one.0 (get_or starts one.0 0) one.2) k inside
      | inr no_rise ↦ elim (cases_lt (absent input t k) (absent input (suc t) k)) [
        | inl rise ↦
            let one = sum_rise (taken_by t k) (taken_by (suc t) k) input.absences.items rise in
            fits_where_one_begins input starts one.0 (suc t) one.1 at_absences (taken_rise t k one.0 one.2) k inside
        | inr neither ↦ omega (arith, before, no_rise, neither)
      ]
    ]

pub fits_everywhere : (input : Input) (starts : List ℕ) → length starts ≡ count (problem_of input) → FitsAtStarts input starts → FitsAtAbsences input starts → FitsAlways input starts
fits_everywhere input starts whole at_starts at_absences t k inside = fits_at input starts whole at_starts at_absences t k inside

-- what inputs with the same numbers share
same_problem : (one other : Input) → HasSameNumbers one other → problem_of one ≡ problem_of other
unfolding numbers_of
same_problem one other same = ap (λ (n : Numbers). n.problem) same

same_windows : (one other : Input) → HasSameNumbers one other → one.windows.items ≡ other.windows.items
unfolding numbers_of
same_windows one other same = ap (λ (n : Numbers). n.windows) same

same_absences : (one other : Input) → HasSameNumbers one other → one.absences.items ≡ other.absences.items
unfolding numbers_of
same_absences one other same = ap (λ (n : Numbers). n.absences) same

same_tails : (one other : Input) → HasSameNumbers one other → one.tails.items ≡ other.tails.items
unfolding numbers_of
same_tails one other same = ap (λ (n : Numbers). n.tails) same

-- inputs with the same numbers have the same plans
pub same_plan : (one other : Input) (starts : List ℕ) → HasSameNumbers one other → IsPlan one starts → IsPlan other starts
same_plan one other starts same plan = record {
  feasible = subst (λ (q : Problem). IsFeasible q starts) (same_problem one other same) plan.feasible;
  windows = subst (λ (ws : List StartWindow). All (KeepsWindow starts) ws) (same_windows one other same) plan.windows;
  fits = λ t k inside. omega (
    arith,
    plan.fits t k (subst (λ (q : Problem). k < length q.capacities) (sym (same_problem one other same)) inside),
    ap (λ (q : Problem). usage q (all_placed starts) t k) (same_problem one other same),
    ap (λ (q : Problem). capacity q k) (same_problem one other same),
    ap (λ (xs : List Absence). sum_by (taken_by t k) xs) (same_absences one other same),
  );
}

-- at the same costs
pub same_cost : (one other : Input) (starts : List ℕ) → HasSameNumbers one other → cost one starts ≡ cost other starts
same_cost one other starts same =
    ap (λ (q : Problem). greatest_below (count q) (λ i. get_or starts i 0 + duration q i + tail one i)) (same_problem one other same)
    ∙ ap (λ (ts : List ℕ). greatest_below (count (problem_of other)) (λ i. get_or starts i 0 + duration (problem_of other) i + get_or ts i 0)) (same_tails one other same)

-- a lower bound of the costs of one is one of the costs of the other
pub same_lower : (one other : Input) (lower : ℕ) → HasSameNumbers one other → IsLowerBound one lower → IsLowerBound other lower
same_lower one other lower same bound starts plan =
    omega (arith, bound starts (same_plan other one starts (sym same) plan), same_cost one other starts same)

-- and so is a plan of least cost
pub same_least : (one other : Input) (starts : List ℕ) → HasSameNumbers one other → IsLeastCost one starts → IsLeastCost other starts
same_least one other starts same least = record {
  plan = same_plan one other starts same least.plan;
  least = λ others plan.
      omega (arith, least.least others (same_plan other one others (sym same) plan), same_cost one other starts same, same_cost one other others same);
}

-- what a problem without windows, absences and tails has
plain_problem : (input : Input) (p : Problem) → IsPlain input p → problem_of input ≡ p
unfolding numbers_of plain_numbers
plain_problem input p plain = ap (λ (n : Numbers). n.problem) plain

plain_windows : (input : Input) (p : Problem) → IsPlain input p → input.windows.items ≡ []
unfolding numbers_of plain_numbers
plain_windows input p plain = ap (λ (n : Numbers). n.windows) plain

plain_absences : (input : Input) (p : Problem) → IsPlain input p → input.absences.items ≡ []
unfolding numbers_of plain_numbers
plain_absences input p plain = ap (λ (n : Numbers). n.absences) plain

plain_tails : (input : Input) (p : Problem) → IsPlain input p → input.tails.items ≡ []
unfolding numbers_of plain_numbers
plain_tails input p plain = ap (λ (n : Numbers). n.tails) plain

-- and the other way round
pub plain_from : (input : Input) (p : Problem) → problem_of input ≡ p → input.windows.items ≡ [] → input.absences.items ≡ [] → input.tails.items ≡ [] → IsPlain input p
unfolding numbers_of plain_numbers
plain_from input p problem windows absences tails = cc

-- without absences nothing is absent
absent_none : (input : Input) (t k : ℕ) → input.absences.items ≡ [] → absent input t k ≡ 0
absent_none input t k none = ap (λ (xs : List Absence). sum_by (taken_by t k) xs) none

-- a feasible list is a plan
pub plain_plan : (input : Input) (p : Problem) (starts : List ℕ) → IsPlain input p → IsFeasible p starts → IsPlan input starts
plain_plan input p starts plain feasible = record {
  feasible = same;
  windows = subst (λ (ws : List StartWindow). All (KeepsWindow starts) ws) (sym (plain_windows input p plain)) (λ k d below. absurd (omega (arith, below)));
  fits = λ t k inside. omega (arith, same.capacities t k inside, absent_none input t k (plain_absences input p plain));
} where
  same : IsFeasible (problem_of input) starts
  same = subst (λ (q : Problem). IsFeasible q starts) (sym (plain_problem input p plain)) feasible

-- and a plan a feasible list
pub plain_feasible : (input : Input) (p : Problem) (starts : List ℕ) → IsPlain input p → IsPlan input starts → IsFeasible p starts
plain_feasible input p starts plain plan = subst (λ (q : Problem). IsFeasible q starts) (plain_problem input p plain) plan.feasible

-- its cost is its makespan
pub plain_cost : (input : Input) (p : Problem) (starts : List ℕ) → IsPlain input p → cost input starts ≡ makespan p starts
plain_cost input p starts plain =
    greatest_same (count (problem_of input)) (reach_of input starts) (λ i. get_or starts i 0 + duration (problem_of input) i)
    (λ i below. omega (arith, get_or_past input.tails.items i 0 (omega (arith, ap length (plain_tails input p plain)))))
    ∙ ap (λ (q : Problem). makespan q starts) (plain_problem input p plain)

-- a lower bound of costs is one of makespans
pub plain_lower : (input : Input) (p : Problem) (lower : ℕ) → IsPlain input p → IsLowerBound input lower → (starts : List ℕ) → IsFeasible p starts → lower ≤ makespan p starts
plain_lower input p lower plain bound starts feasible =
    omega (arith, bound starts (plain_plan input p starts plain feasible), plain_cost input p starts plain)

-- the laws
pub plans_are_feasible : PlansAreFeasible
unfolding PlansAreFeasible
plans_are_feasible input p starts plain = (plain_feasible input p starts plain, plain_plan input p starts plain)

pub costs_are_makespans : CostsAreMakespans
unfolding CostsAreMakespans
costs_are_makespans input p starts plain = plain_cost input p starts plain

pub least_costs_are_shortest : LeastCostsAreShortest
unfolding LeastCostsAreShortest
least_costs_are_shortest input p starts plain least = record {
  feasible = plain_feasible input p starts plain least.plan;
  least = λ other feasible. omega (arith, least.least other (plain_plan input p other plain feasible), plain_cost input p starts plain, plain_cost input p other plain);
}

pub lower_bounds_are_of_makespans : LowerBoundsAreOfMakespans
unfolding LowerBoundsAreOfMakespans
lower_bounds_are_of_makespans input p lower plain bound = plain_lower input p lower plain bound
