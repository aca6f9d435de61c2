-- Two texts determine a calendar, and so its working days.
use Rattle.std.specs.Prelude.{◌&&◌, not}
use Rattle.std.proofs.Common.{ℕ, zero, suc, ◌+◌, ◌≡◌, Bool, true, false, List, [], ◌∷◌, ◌++◌, map, refl, sym, ◌∙◌, ap, arith, pos, ℤ, ◌+ℤ◌}
use Rattle.jiff_core.specs.Date.{epoch_day}
use Rattle.jiff_core.specs.declared.civil.date.Date.{Date}
use Rattle.jiff_core.proofs.DateLemmas.{epoch_day_same}
use Rattle.jiff_fmt.specs.Text.{year_text, pad2}
use Rattle.plan_calendar.specs.WorkingDay.{Workdays, IsWorkingDay, is_marked, is_holiday, is_working, working_days, one_if}
use Rattle.plan_calendar.specs.CalendarText.{IsStartText, IsMarksText, IsCalendar, RefusesTexts, mark_digit}
use Rattle.plan_calendar.specs.declared.calendar.CalendarFault.{CalendarFault}
use Rattle.plan_calendar.specs.declared.calendar.CalendarFault.TheVariants as fault
use Rattle.plan_calendar.proofs.TextLemmas.{natural_year, same_parts}

-- two equivalent calendars: the same first day, the same marks and the same holidays
pub record GoAlike (c d : Workdays) : Type 0 where
  pub start : epoch_day c.start ≡ epoch_day d.start
  pub marks : c.marks ≡ d.marks
  pub holidays : c.holidays ≡ d.holidays

-- a text spells one day
pub start_once : (text : List ℕ) (a b : Date) → IsStartText text a → IsStartText text b → epoch_day a ≡ epoch_day b
start_once text a b first second =
    let natural = natural_year a.year first.year in
    let spelled = first.spelled ∙ ap (λ (y : ℤ). year_text y ++ 45 ∷ [] ++ pad2 a.month ++ 45 ∷ [] ++ pad2 a.day) natural.1 in
    let parts = same_parts text natural.0 a.month a.day b spelled second in
    epoch_day_same a b (natural.1 ∙ sym parts.0) (sym parts.1) (sym parts.2)

digit_once : (a b : Bool) → mark_digit a ≡ mark_digit b → a ≡ b
digit_once true true same = refl
digit_once false false same = refl
digit_once true false same = absurd (omega (arith, same))
digit_once false true same = absurd (omega (arith, same))

digits_once : (xs ys : List Bool) → map mark_digit xs ≡ map mark_digit ys → xs ≡ ys
digits_once [] [] same = refl
digits_once [] (y ∷ ys) same = absurd (cc)
digits_once (x ∷ xs) [] same = absurd (cc)
digits_once (x ∷ xs) (y ∷ ys) same =
    let first : mark_digit x ≡ mark_digit y = cc in
    let rest : map mark_digit xs ≡ map mark_digit ys = cc in
    ap (λ (m : Bool). m ∷ xs) (digit_once x y first) ∙ ap (λ (ms : List Bool). y ∷ ms) (digits_once xs ys rest)

-- and one list of marks
pub marks_once : (text : List ℕ) (xs ys : List Bool) → IsMarksText text xs → IsMarksText text ys → xs ≡ ys
marks_once text xs ys first second = digits_once xs ys (sym first.spelled ∙ second.spelled)

-- the calendars of two texts are equivalent
pub calendar_once : (start marks : List ℕ) (c d : Workdays) → IsCalendar start marks c → IsCalendar start marks d → GoAlike c d
calendar_once start marks c d first second = record {
  start = start_once start c.start d.start first.start_text second.start_text;
  marks = marks_once marks c.marks d.marks first.marks_text second.marks_text;
  holidays = first.no_holidays ∙ sym second.no_holidays;
}

-- texts have at most one error
pub texts_once : (start marks : List ℕ) (f g : CalendarFault) → RefusesTexts start marks f → RefusesTexts start marks g → f ≡ g
texts_once start marks fault.BadDate fault.BadDate first second = refl
texts_once start marks fault.BadDate fault.BadDays first second = absurd (first second.0.0 second.0.1)
texts_once start marks fault.BadDate fault.BeyondCalendar first second = absurd second
texts_once start marks fault.BadDays fault.BadDate first second = absurd (second first.0.0 first.0.1)
texts_once start marks fault.BadDays fault.BadDays first second = refl
texts_once start marks fault.BadDays fault.BeyondCalendar first second = absurd second
texts_once start marks fault.BeyondCalendar g first second = absurd first

-- texts of a calendar have no error
pub texts_apart : (start marks : List ℕ) (c : Workdays) (f : CalendarFault) → IsCalendar start marks c → RefusesTexts start marks f → ⊥
texts_apart start marks c fault.BadDate calendar refused = refused c.start calendar.start_text
texts_apart start marks c fault.BadDays calendar refused = refused.1 c.marks calendar.marks_text
texts_apart start marks c fault.BeyondCalendar calendar refused = refused

-- equivalent calendars agree on each day
same_work : (c d : Workdays) (day : ℤ) → GoAlike c d → is_working c day ≡ is_working d day
unfolding is_working
same_work c d day same =
    ap (λ (marks : List Bool). is_marked marks day && not (is_holiday c.holidays day)) same.marks
    ∙ ap (λ (holidays : List Date). is_marked d.marks day && not (is_holiday holidays day)) same.holidays

same_days : (c d : Workdays) (day : ℤ) (n : ℕ) → GoAlike c d → working_days c day n ≡ working_days d day n
unfolding working_days
same_days c d day zero same = refl
same_days c d day (suc n) same =
    ap (λ (k : ℕ). k + one_if (is_working c (day +ℤ pos n))) (same_days c d day n same)
    ∙ ap (λ (on : Bool). working_days d day n + one_if on) (same_work c d (day +ℤ pos n) same)

-- equivalent calendars have the same working days
pub working_alike : (c d : Workdays) (t : ℕ) (date : Date) → GoAlike c d → IsWorkingDay c t date → IsWorkingDay d t date
working_alike c d t date same day = record {
  days = day.days;
  after = day.after ∙ ap (λ (n : ℤ). n +ℤ pos day.days) same.start;
  working = sym (same_work c d (epoch_day date) same) ∙ day.working;
  before = sym (same_days c d (epoch_day d.start) day.days same) ∙ ap (λ (n : ℤ). working_days c n day.days) (sym same.start) ∙ day.before;
}
