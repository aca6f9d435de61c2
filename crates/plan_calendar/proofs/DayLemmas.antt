-- Working days by the marks from the weekday of the start on, and the indices of the holidays.
use Rattle.std.proofs.Common.{◌≡◌, ℕ, zero, suc, ◌+◌, ◌-◌, ◌<◌, ◌≤◌, Bool, true, false, List, sym, ◌∙◌, subst, ap, arith, pos, ◌+ℤ◌, ℤ}
use Rattle.jiff_core.specs.Calendar.{weekday_number, IsEpochDay}
use Rattle.jiff_core.specs.Date.{epoch_day}
use Rattle.jiff_core.specs.declared.civil.date.Date.{Date}
use Rattle.jiff_core.proofs.DateLemmas.{epoch_day_range}
use Rattle.jiff_core.proofs.SignedLemmas.{signed_arith}
use Rattle.std.proofs.lemmas.List.Kept.{AllPairs-from_increasing}
use Rattle.plan_calendar.specs.WorkingDay.{Workdays, IsWorkingDay, IsBeyond, is_working, working_days, is_marked, one_if}
use Rattle.plan_calendar.specs.Weeks.{IsMarkedAfter, marked_days}
use Rattle.plan_calendar.specs.DaysOff.{AreDaysOff, shifted_by, has_index}
use Rattle.plan_calendar.proofs.WeekLemmas.{mark_by_day, marks_by_day}
use Rattle.plan_calendar.proofs.IndexLemmas.{AreRising, count_below, shifted_is, counted, working_at, days_more}

-- ---- one working day for each number

rises : (c : Workdays) (day : ℤ) (n m : ℕ) → working_days c day n ≤ working_days c day (n + m)
rises c day n zero =
    let e : working_days c day (n + 0) ≡ working_days c day n = ap (working_days c day) (omega arith) in
    omega (arith, e)
rises c day n (suc m) =
    let e : working_days c day (n + suc m) ≡ working_days c day (n + m) + one_if (is_working c (day +ℤ pos (n + m))) =
    ap (working_days c day) (omega arith) ∙ days_more c day (n + m) in
    let h = rises c day n m in
    omega (arith, e, h)

-- more working days are before a later day than before a working day
above : (c : Workdays) (day : ℤ) (a b : ℕ) → is_working c (day +ℤ pos a) ≡ true → a < b → working_days c day a < working_days c day b
above c day a b working later =
    let e : working_days c day b ≡ working_days c day (suc a + (b - suc a)) = ap (working_days c day) (omega (arith, later)) in
    let g : working_days c day (suc a) ≡ working_days c day a + 1 = days_more c day a ∙ ap (λ w. working_days c day a + one_if w) working in
    let h = rises c day (suc a) (b - suc a) in
    omega (arith, e, g, h)

at_most_days : (c : Workdays) (day : ℤ) (n : ℕ) → working_days c day n ≤ n
unfolding working_days
at_most_days c day zero = omega arith
at_most_days c day (suc n) =
    let h = at_most_days c day n in
    let bit : (m : Bool) → one_if m ≤ 1 = λ m. elim m as (λ b. one_if b ≤ 1) [ true ↦ omega arith | false ↦ omega arith ] in
    let b = bit (is_working c (day +ℤ pos n)) in
    omega (arith, h, b)

same_days : (c : Workdays) (t : ℕ) (a b : Date) (x : IsWorkingDay c t a) (y : IsWorkingDay c t b) → x.days ≡ y.days
same_days c t a b x y =
    let first : is_working c (epoch_day c.start +ℤ pos x.days) ≡ true = ap (is_working c) (sym x.after) ∙ x.working in
    let second : is_working c (epoch_day c.start +ℤ pos y.days) ≡ true = ap (is_working c) (sym y.after) ∙ y.working in
    let up : x.days < y.days → working_days c (epoch_day c.start) x.days < working_days c (epoch_day c.start) y.days = above c (epoch_day c.start) x.days y.days first in
    let down : y.days < x.days → working_days c (epoch_day c.start) y.days < working_days c (epoch_day c.start) x.days = above c (epoch_day c.start) y.days x.days second in
    grind (arith, up, down, x.before, y.before)

-- an instant has one working day
pub one_day : (calendar : Workdays) (t : ℕ) (a b : Date) → IsWorkingDay calendar t a → IsWorkingDay calendar t b → epoch_day a ≡ epoch_day b
one_day calendar t a b x y = x.after ∙ ap (λ n. epoch_day calendar.start +ℤ pos n) (same_days calendar t a b x y) ∙ sym y.after

-- ---- the working day of an instant

abbrev weekday_at : Workdays → ℕ
weekday_at calendar = weekday_number (epoch_day calendar.start)

-- the day with the index that an instant is shifted to is a working day, and has as many before it as the instant says
record IsDay (c : Workdays) (t days : ℕ) : Type 0 where
  working : is_working c (epoch_day c.start +ℤ pos days) ≡ true
  before : working_days c (epoch_day c.start) days ≡ t

day_is : (c : Workdays) (indices : List ℕ) (w t days : ℕ) → AreDaysOff (epoch_day c.start) c.marks c.holidays indices → w ≡ weekday_at c
    → IsMarkedAfter c.marks w (shifted_by indices t) days → IsDay c t days
day_is c indices w t days off same found =
    let rising : AreRising indices = AllPairs-from_increasing indices off.rising in
    let shifted = shifted_is indices t rising in
    let here : IsMarkedAfter c.marks (weekday_at c) (shifted_by indices t) days = subst (λ v. IsMarkedAfter c.marks v (shifted_by indices t) days) same found in
    let index : marked_days c.marks (epoch_day c.start) days ≡ shifted_by indices t = marks_by_day c.marks (epoch_day c.start) days ∙ here.before in
    let marked : is_marked c.marks (epoch_day c.start +ℤ pos days) ≡ true = mark_by_day c.marks (epoch_day c.start) days ∙ here.marked in
    let all = counted c indices rising off.exact days in
    let below : count_below indices (marked_days c.marks (epoch_day c.start) days) ≡ count_below indices (shifted_by indices t) = ap (count_below indices) index in
    record {
      working = working_at c indices off.exact days marked (ap (has_index indices) index ∙ shifted.free);
      before = omega (arith, all, below, index, shifted.moved);
    }

pub working : (calendar : Workdays) (indices : List ℕ) (w t index days : ℕ) (date : Date) → AreDaysOff (epoch_day calendar.start) calendar.marks calendar.holidays indices
    → w ≡ weekday_at calendar → index ≡ shifted_by indices t → IsMarkedAfter calendar.marks w index days → epoch_day date ≡ epoch_day calendar.start +ℤ pos days
    → IsWorkingDay calendar t date
working calendar indices w t index days date off same is found after =
    let day = day_is calendar indices w t days off same (subst (λ n. IsMarkedAfter calendar.marks w n days) is found) in
    record { days = days; after = after; working = ap (is_working calendar) after ∙ day.working; before = day.before }

-- if the day isn't in the range of dates, there is no working day
pub beyond : (calendar : Workdays) (indices : List ℕ) (w t index days : ℕ) → AreDaysOff (epoch_day calendar.start) calendar.marks calendar.holidays indices
    → w ≡ weekday_at calendar → index ≡ shifted_by indices t → IsMarkedAfter calendar.marks w index days
    → (IsEpochDay (epoch_day calendar.start +ℤ pos days) → ⊥) → IsBeyond calendar t
beyond calendar indices w t index days off same is found outside date day =
    let here = day_is calendar indices w t days off same (subst (λ n. IsMarkedAfter calendar.marks w n days) is found) in
    let start = epoch_day calendar.start in
    let reached : is_working calendar (start +ℤ pos day.days) ≡ true = ap (is_working calendar) (sym day.after) ∙ day.working in
    let up : day.days < days → working_days calendar start day.days < working_days calendar start days = above calendar start day.days days reached in
    let down : days < day.days → working_days calendar start days < working_days calendar start day.days = above calendar start days day.days here.working in
    let equal : day.days ≡ days = grind (arith, up, down, day.before, here.before) in
    outside (subst IsEpochDay (day.after ∙ ap (λ n. start +ℤ pos n) equal) (epoch_day_range date))

-- nor is there one after more working days than there are days
pub far_beyond : (calendar : Workdays) (t : ℕ) → 7304483 < t → IsBeyond calendar t
far_beyond calendar t far date day =
    let least : working_days calendar (epoch_day calendar.start) day.days ≤ day.days = at_most_days calendar (epoch_day calendar.start) day.days in
    let many : 7304483 < day.days = omega (arith, far, least, day.before) in
    let first = epoch_day_range calendar.start in
    let last = epoch_day_range date in
    omega (arith, signed_arith, many, first.0, last.1, day.after)
