use Rattle.std.proofs.Common.{◌≡◌, Bool, List, length, ℕ, ap, sym, ◌∙◌, subst}
use Rattle.std.specs.Prelude.{Err, nat_eq, ◌==◌, string_bytes}
use Rattle.plan_calendar.specs.WorkingDay.{Workdays}
use Rattle.plan_calendar.specs.CalendarText.{IsCalendar}
use Rattle.plan_desk.specs.Refusals.{bad_calendar}
use Rattle.plan_desk.specs.PlanValues.{row_in}
use Rattle.plan_desk.specs.Scheduled.{IsDaysTableOf, HasDayBeyondOf}
use Rattle.plan_rows.specs.declared.rows.PlanRow.{PlanRow}
use Rattle.plan_desk.proofs.DaysLemmas.{days_missing, days_shown, days_beyond}
use Rattle.plan_desk.proofs.pages.days.days_of.Goals as goal

-- whether a text is empty
emptiness : (text start : List ℕ) (b : Bool) → text ≡ start → b ≡ (length text == 0) → nat_eq (length start) 0 ≡ b
emptiness text start b same is = sym (is ∙ ap (λ t. nat_eq (length t) 0) same)

-- the texts that were judged are those of the plan
calendar_is : (plan : PlanRow) (start days : List ℕ) (c : Workdays) → start ≡ string_bytes plan.start → days ≡ string_bytes plan.days → IsCalendar start days c
    → IsCalendar (string_bytes plan.start) (string_bytes plan.days) c
calendar_is plan start days c same also is =
    subst (λ text. IsCalendar text (string_bytes plan.days) c) same (subst (λ text. IsCalendar start text c) also is)

pub returns-then-is_empty-clause-shown : goal.returns-then-is_empty-clause-shown
returns-then-is_empty-clause-shown c =
    days_missing (row_in c.args.plan.now) (IsDaysTableOf c.args.made.now) (HasDayBeyondOf c.args.made.now) _ (emptiness _ _ _ c.as_str.ensures.value c.if-is_empty.ensures)
    (c.in_ok-bad_calendar.ensures ∙ ap bad_calendar c.missing_calendar.ensures.text)

pub returns-in-Ok-days_table-clause-shown : goal.returns-in-Ok-days_table-clause-shown
returns-in-Ok-days_table-clause-shown c =
    days_shown (row_in c.args.plan.now) (IsDaysTableOf c.args.made.now) (HasDayBeyondOf c.args.made.now) c.in-Ok.calendar (string_bytes c.in-Ok-days_table.text) _
    (emptiness _ _ _ c.as_str.ensures.value c.if-is_empty.ensures) (calendar_is c.args.plan.now _ _ c.in-Ok.calendar c.as_str-2.ensures.value c.as_str-3.ensures.value c.in-Ok.ensures.ok)
    c.in-Ok-days_table.ensures.text c.page.ensures

pub returns-clause-shown : goal.returns-clause-shown
returns-clause-shown c =
    days_beyond (row_in c.args.plan.now) (IsDaysTableOf c.args.made.now) (HasDayBeyondOf c.args.made.now) c.in-Ok.calendar _
    (emptiness _ _ _ c.as_str.ensures.value c.if-is_empty.ensures) (calendar_is c.args.plan.now _ _ c.in-Ok.calendar c.as_str-2.ensures.value c.as_str-3.ensures.value c.in-Ok.ensures.ok)
    (c.in-Err-BeyondCalendar.ensures.beyond (ap Err c.in-Err-BeyondCalendar.field-0-is))
    (c.in_ok-bad_calendar-in-Err-BeyondCalendar.ensures ∙ ap bad_calendar c.calendar_fault_text-line.ensures.text)
