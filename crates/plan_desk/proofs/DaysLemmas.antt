-- Working days by the calendar of a plan.
use Rattle.std.proofs.Common.{◌≡◌, inl, inr, true, false, length, refl}
use Rattle.std.specs.Prelude.{nat_eq}
use Rattle.plan_calendar.specs.WorkingDay.{Workdays}
use Rattle.plan_calendar.specs.CalendarText.{IsCalendar}
use Rattle.plan_gantt.specs.CalendarFaultText.{calendar_fault_text_of, missing_calendar_text}
use Rattle.plan_calendar.specs.declared.calendar.CalendarFault.TheVariants.{BeyondCalendar}
use Rattle.plan_rows.specs.World.{Text, Plan}
use Rattle.plan_rows.specs.Changes.{Keep}
use Rattle.plan_desk.specs.Calls.{Reply, page}
use Rattle.plan_desk.specs.Outcomes.{refuses, shows, some, why_or}
use Rattle.plan_desk.specs.Refusals.{bad_calendar}
use Rattle.plan_desk.specs.PageRoutes.{OfCalendar}
use Rattle.plan_desk.proofs.RefusedLemmas.{refused_by, passed_by}

-- no calendar is set
pub days_missing : (plan : Plan) (IsTable : Workdays → Text → Type 0) (IsBeyond : Workdays → Type 0) (reply : Reply) → nat_eq (length plan.start) 0 ≡ true
    → reply ≡ bad_calendar missing_calendar_text → OfCalendar plan IsTable IsBeyond reply Keep
unfolding OfCalendar
days_missing plan IsTable IsBeyond reply none e = refused_by (nat_eq (length plan.start) 0) _ _ reply none e

-- the table
pub days_shown : (plan : Plan) (IsTable : Workdays → Text → Type 0) (IsBeyond : Workdays → Type 0) (c : Workdays) (text : Text) (reply : Reply)
    → nat_eq (length plan.start) 0 ≡ false → IsCalendar plan.start plan.days c → IsTable c text → reply ≡ page text → OfCalendar plan IsTable IsBeyond reply Keep
unfolding OfCalendar why_or some shows
days_shown plan IsTable IsBeyond c text reply set is table e =
    passed_by (nat_eq (length plan.start) 0) _ _ reply Keep set (inr (text, (c, is, table), (text, refl, e, refl)))

-- a day is beyond the calendar
pub days_beyond : (plan : Plan) (IsTable : Workdays → Text → Type 0) (IsBeyond : Workdays → Type 0) (c : Workdays) (reply : Reply)
    → nat_eq (length plan.start) 0 ≡ false → IsCalendar plan.start plan.days c → IsBeyond c → reply ≡ bad_calendar (calendar_fault_text_of BeyondCalendar)
    → OfCalendar plan IsTable IsBeyond reply Keep
unfolding OfCalendar why_or some refuses
days_beyond plan IsTable IsBeyond c reply set is beyond e =
    passed_by (nat_eq (length plan.start) 0) _ _ reply Keep set (inl (calendar_fault_text_of BeyondCalendar, (c, is, beyond, refl), (e, refl)))
