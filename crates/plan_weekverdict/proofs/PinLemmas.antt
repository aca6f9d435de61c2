-- A week with starts as appointments has the overloads of the starts.
use Rattle.std.proofs.Common.{◌≡◌, ◌∙◌, ℕ, ◌+◌, ◌≤◌, ◌<◌, ◌&&◌, inl, inr, List, [], Option, Some, None, cond, nat_le, nat_lt, map, length, get_or, refl, sym, ap, subst, arith}
use Rattle.std.specs.Bool.{IsFalse}
use Rattle.std.specs.List.{sum_by}
use Rattle.std.specs.Option.{IfSome, IfNone}
use Rattle.std.proofs.lemmas.Bool.{cases_lt, cond-false, and_left, and_right, lt-leb, le-ltb}
use Rattle.plan_sgs.specs.Problem.{Problem, count, duration, need, capacity, total}
use Rattle.plan_sgs.specs.Verdicts.{IsNoLater}
use Rattle.plan_sgs.proofs.TotalLemmas.{total_same}
use Rattle.plan_kernel.specs.declared.input.Absence.{Absence}
use Rattle.plan_kernel.specs.Plans.{taken_by}
use Rattle.plan_week.specs.declared.overload.Overload.{Overload}
use Rattle.plan_week.specs.declared.week.State.{State}
use Rattle.plan_week.specs.declared.week.State.TheVariants.{Open, Begun, Done}
use Rattle.plan_week.specs.declared.week.Week.{Week}
use Rattle.plan_week.specs.Weeks.{project_of, state_of, rest, rest_of, is_open, KeepsState, end_of, needed_by, needed, missing}
use Rattle.plan_week.specs.Overloads.{settled_start, held_from, held_by, held, IsOverload, IsFirstOverload, HasNoOverload}
use Rattle.plan_weekverdict.specs.Pins.{pin, IsPinned}
use Rattle.plan_weekverdict.specs.Verdicts.{HasSettled, IsOver, HasNoOver, IsFirstOver}

pub project_count : (week : Week) → count (project_of week) ≡ length week.durations.items
unfolding project_of
project_count week = refl

same_count : (week pinned : Week) (starts : List ℕ) → IsPinned week starts pinned → count (project_of pinned) ≡ count (project_of week)
unfolding project_of
same_count week pinned starts is = ap length is.durations

same_duration : (week pinned : Week) (starts : List ℕ) (i : ℕ) → IsPinned week starts pinned → duration (project_of pinned) i ≡ duration (project_of week) i
unfolding project_of
same_duration week pinned starts i is = ap (λ (xs : List ℕ). get_or xs i 0) is.durations

same_need : (week pinned : Week) (starts : List ℕ) (i k : ℕ) → IsPinned week starts pinned → need (project_of pinned) i k ≡ need (project_of week) i k
unfolding project_of
same_need week pinned starts i k is = ap (λ (rows : List (List ℕ)). get_or (get_or rows i []) k 0) is.needs

same_capacities : (week pinned : Week) (starts : List ℕ) → IsPinned week starts pinned → (project_of pinned).capacities ≡ (project_of week).capacities
unfolding project_of
same_capacities week pinned starts is = is.capacities

same_missing : (week pinned : Week) (starts : List ℕ) (t k : ℕ) → IsPinned week starts pinned → missing pinned t k ≡ missing week t k
same_missing week pinned starts t k is = ap (λ (xs : List Absence). sum_by (taken_by t k) xs) is.absences

-- a start as an appointment doesn't change the remaining time
rest_pinned : (lasts start : ℕ) (s : State) → rest lasts (pin start s) ≡ rest lasts s
rest_pinned lasts start (Open earliest fixed) = refl
rest_pinned lasts start (Begun began remaining) = refl
rest_pinned lasts start (Done ended) = refl

-- the state of an activity
same_state : (week pinned : Week) (starts : List ℕ) (i : ℕ) → IsPinned week starts pinned → i < count (project_of week)
    → state_of pinned i ≡ pin (get_or starts i 0) (state_of week i)
same_state week pinned starts i is inside = is.states.each i (omega (arith, inside, project_count week))

same_rest : (week pinned : Week) (starts : List ℕ) (i : ℕ) → IsPinned week starts pinned → i < count (project_of week) → rest_of pinned i ≡ rest_of week i
same_rest week pinned starts i is inside =
    ap (λ (s : State). rest (duration (project_of pinned) i) s) (same_state week pinned starts i is inside)
    ∙ rest_pinned (duration (project_of pinned) i) (get_or starts i 0) (state_of week i)
    ∙ ap (λ (d : ℕ). rest d (state_of week i)) (same_duration week pinned starts i is)

-- an activity that takes no time needs nothing
idle : (start t amount : ℕ) → cond (nat_le start t && nat_lt t (start + 0)) amount 0 ≡ 0
idle start t amount = elim (cases_lt t start) [
  | inl early ↦
      cond-false (nat_le start t && nat_lt t (start + 0)) amount 0 (and_left (nat_le start t) (nat_lt t (start + 0)) (lt-leb start t early))
  | inr late ↦
      cond-false (nat_le start t && nat_lt t (start + 0)) amount 0 (and_right (nat_le start t) (nat_lt t (start + 0)) (le-ltb t (start + 0) (omega (arith, late))))
]

-- an activity holds from its appointment on the amount that it needs from its start on
held_pinned : (week : Week) (today t k i start lasts : ℕ) (s : State) → rest_of week i ≡ rest lasts s → (IsFalse (is_open s) → KeepsState today start s)
    → held_from week t k i (settled_start today (pin start s)) ≡ cond (nat_le start t && nat_lt t (start + rest_of week i)) (need (project_of week) i k) 0
held_pinned week today t k i start lasts (Open earliest fixed) same settled = refl
held_pinned week today t k i start lasts (Begun began remaining) same settled =
    ap (λ (x : ℕ). cond (nat_le x t && nat_lt t (x + rest_of week i)) (need (project_of week) i k) 0) (sym (settled refl))
held_pinned week today t k i start lasts (Done ended) same settled =
    sym (ap (λ (x : ℕ). cond (nat_le start t && nat_lt t (start + x)) (need (project_of week) i k) 0) same ∙ idle start t (need (project_of week) i k))

-- one activity holds the amount that it needs
held_needed : (week pinned : Week) (starts : List ℕ) (t k i : ℕ) → IsPinned week starts pinned → HasSettled week starts → i < count (project_of week)
    → held_by pinned t k i ≡ needed_by week starts t k i
held_needed week pinned starts t k i is settled inside =
    let start : ℕ = get_or starts i 0 in
    ap (λ (s : State). held_from pinned t k i (settled_start pinned.today s)) (same_state week pinned starts i is inside)
    ∙ ap (λ (x : ℕ). held_from pinned t k i (settled_start x (pin start (state_of week i)))) is.now
    ∙ held_pinned pinned week.today t k i start (duration (project_of week) i) (state_of week i) (same_rest week pinned starts i is inside) (settled.settled i inside)
    ∙ ap (λ (x : ℕ). cond (nat_le start t && nat_lt t (start + x)) (need (project_of pinned) i k) 0) (same_rest week pinned starts i is inside)
    ∙ ap (λ (x : ℕ). cond (nat_le start t && nat_lt t (end_of week starts i)) x 0) (same_need week pinned starts i k is)

-- all activities together hold the amount that they need
held_is : (week pinned : Week) (starts : List ℕ) (t k : ℕ) → IsPinned week starts pinned → HasSettled week starts → held pinned t k ≡ needed week starts t k
held_is week pinned starts t k is settled =
    ap (λ (n : ℕ). total n (held_by pinned t k)) (same_count week pinned starts is)
    ∙ total_same (count (project_of week)) (held_by pinned t k) (needed_by week starts t k) (λ i inside. held_needed week pinned starts t k i is settled inside)

-- the overloads are the same
over_from : (week pinned : Week) (starts : List ℕ) (k t : ℕ) → IsPinned week starts pinned → HasSettled week starts → IsOverload pinned k t → IsOver week starts k t
over_from week pinned starts k t is settled over = record {
  since = omega (arith, over.since, is.now);
  resource = omega (arith, over.resource, ap length (same_capacities week pinned starts is));
  above = omega (
    arith,
    over.above,
    ap (λ (caps : List ℕ). get_or caps k 0) (same_capacities week pinned starts is),
    held_is week pinned starts t k is settled,
    same_missing week pinned starts t k is,
  );
}

over_to : (week pinned : Week) (starts : List ℕ) (k t : ℕ) → IsPinned week starts pinned → HasSettled week starts → IsOver week starts k t → IsOverload pinned k t
over_to week pinned starts k t is settled over = record {
  since = omega (arith, over.since, is.now);
  resource = omega (arith, over.resource, ap length (same_capacities week pinned starts is));
  above = omega (
    arith,
    over.above,
    ap (λ (caps : List ℕ). get_or caps k 0) (same_capacities week pinned starts is),
    held_is week pinned starts t k is settled,
    same_missing week pinned starts t k is,
  );
}

first_over_is : (week pinned : Week) (starts : List ℕ) (o : Overload) → IsPinned week starts pinned → HasSettled week starts → IsFirstOverload pinned o → IsFirstOver week starts o
first_over_is week pinned starts o is settled found = record {
  here = over_from week pinned starts o.resource o.instant is settled found.here;
  first = λ k t over. order k t (over_to week pinned starts k t is settled over);
} where
  order : (k t : ℕ) → IsOverload pinned k t → IsNoLater o.instant o.resource t k
  order k t over = elim (cases_lt o.instant t) [
    | inl before ↦ inl before
    | inr after ↦
        let same : o.instant ≡ t = omega (arith, after, found.first k t tt over) in
        inr (same, found.least k (subst (λ (x : ℕ). IsOverload pinned k x) (sym same) over))
  ]

-- the result of the search for the first overload
pub over_found : (week pinned : Week) (starts : List ℕ) (found : Option Overload) → IsPinned week starts pinned → HasSettled week starts
    → IfSome found (IsFirstOverload pinned) → IfSome found (IsFirstOver week starts)
over_found week pinned starts None is settled found = tt
over_found week pinned starts (Some o) is settled found = first_over_is week pinned starts o is settled found

pub over_none : (week pinned : Week) (starts : List ℕ) (found : Option Overload) → IsPinned week starts pinned → HasSettled week starts
    → IfNone found (HasNoOverload pinned) → IfNone found (HasNoOver week starts)
over_none week pinned starts None is settled none = λ k t over. none k t (over_to week pinned starts k t is settled over)
over_none week pinned starts (Some o) is settled none = tt
