-- The texts of the times of activities.
use Rattle.std.proofs.Common.{◌≡◌, ℕ, ◌+◌, ◌-◌, ◌<◌, zero, suc, List, [], ◌∷◌, ◌++◌, Option, Some, length, map, refl, sym, ap, ◌∙◌, subst, get_or, arith}
use Rattle.std.specs.Prelude.{IfSome}
use Rattle.std.specs.List.{slice_get}
use Rattle.std.specs.Option.{option_map}
use Rattle.std.proofs.lemmas.List.{map-append}
use Rattle.std.proofs.lemmas.Option.{slice_get-map, slice_get_read}
use Rattle.plan_calendar.specs.WorkingDay.{Workdays}
use Rattle.plan_table.specs.Table.{Activity, Table, activity_of}
use Rattle.plan_table.specs.declared.table.Activity as kept
use Rattle.plan_list_back.specs.ListBack.{times_of}
use Rattle.plan_list_back.specs.declared.times.Times as declared
use Rattle.plan_cli.specs.ListTimes.{IsDayText, AreDayTexts, AreTimesOf, AreTimesAt, AreFirstTimes, IsBeyondIf, HasDayBeyond}

-- the texts of the first and the last day of time units, if there are some
pub both_days : (calendar : Workdays) (start duration : ℕ) (first last : List ℕ) → 0 < duration
    → IsDayText calendar start first → IsDayText calendar (start + (duration - 1)) last → AreDayTexts calendar start duration first last
both_days calendar start zero first last some a b = absurd (omega (arith, some))
both_days calendar start (suc n) first last some a b =
    let place : start + (suc n - 1) ≡ start + n = omega arith in
    (a, subst (λ (t : ℕ). IsDayText calendar t last) place b)

-- an activity of a table
pub activity_at : (t : Table) (xs : List kept.Activity) (k : ℕ) (x : kept.Activity) → t.activities ≡ map activity_of xs → k < length xs
    → x ≡ get_or xs k x → slice_get t.activities k ≡ Some (activity_of x)
activity_at t xs k x same inside is =
    ap (λ (ys : List Activity). slice_get ys k) same ∙ slice_get-map activity_of xs k
    ∙ ap (option_map activity_of) (slice_get_read xs (length xs) k x refl inside is)

-- no times
pub no_times : (calendar : Option Workdays) (t : Table) (starts slacks : List ℕ) (all : List declared.Times) → all ≡ []
    → AreFirstTimes calendar t starts slacks 0 (map times_of all)
unfolding AreFirstTimes
no_times calendar t starts slacks all none = ap (map times_of) none

-- the times of one activity more
pub next_times : (calendar : Option Workdays) (t : Table) (starts slacks : List ℕ) (k : ℕ) (a : Activity) (start slack : ℕ) (old new : List declared.Times)
    (x : declared.Times) → AreFirstTimes calendar t starts slacks k (map times_of old) → slice_get t.activities k ≡ Some a
    → start ≡ get_or starts (k + 1) 0 → slack ≡ get_or slacks (k + 1) 0 → AreTimesOf calendar t.own_ids a start slack (times_of x)
    → new ≡ old ++ x ∷ [] → AreFirstTimes calendar t starts slacks (k + 1) (map times_of new)
unfolding AreFirstTimes
next_times calendar t starts slacks k a start slack old new x so_far at begins late are pushed =
    let place : k + 1 ≡ suc k = omega arith in
    let here : AreTimesOf calendar t.own_ids a (get_or starts (k + 1) 0) (get_or slacks (k + 1) 0) (times_of x) =
    subst (λ (n : ℕ). AreTimesOf calendar t.own_ids a (get_or starts (k + 1) 0) n (times_of x)) late
    (subst (λ (n : ℕ). AreTimesOf calendar t.own_ids a n slack (times_of x)) begins are) in
    let shown : AreTimesAt calendar t starts slacks k (times_of x) =
    subst (λ (o : Option Activity). IfSome o (λ b. AreTimesOf calendar t.own_ids b (get_or starts (k + 1) 0) (get_or slacks (k + 1) 0) (times_of x)))
    (sym at) here in
    let made : map times_of new ≡ map times_of old ++ times_of x ∷ [] = ap (map times_of) pushed ∙ map-append times_of old (x ∷ []) in
    subst (λ (n : ℕ). AreFirstTimes calendar t starts slacks n (map times_of new)) (sym place) (map times_of old, times_of x, so_far, shown, made)

-- a day of an activity is after the last date
pub day_beyond : (calendar : Option Workdays) (t : Table) (starts : List ℕ) (k : ℕ) (a : Activity) (start : ℕ) → slice_get t.activities k ≡ Some a
    → start ≡ get_or starts (k + 1) 0 → IsBeyondIf calendar start a.duration → HasDayBeyond calendar t starts
day_beyond calendar t starts k a start at begins beyond = (k, a, at, subst (λ (n : ℕ). IsBeyondIf calendar n a.duration) begins beyond)
