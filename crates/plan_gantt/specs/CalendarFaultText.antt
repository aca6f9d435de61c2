-- The error lines of working days that are rejected (docs/definitions.md, "Texts").
use Rattle.std.specs.Prelude.{ℕ, List, codes}
use Rattle.plan_calendar.specs.declared.calendar.CalendarFault.{CalendarFault}
use Rattle.plan_calendar.specs.declared.calendar.CalendarFault.TheVariants as fault

-- the error line of a calendar that is rejected, or a day of it
abbrev pub calendar_fault_text_of : CalendarFault → List ℕ
calendar_fault_text_of fault.BadDate = codes "G1 date"
calendar_fault_text_of fault.BadDays = codes "G2 days"
calendar_fault_text_of fault.BeyondCalendar = codes "G3 beyond calendar"

-- the error line if no calendar was given
abbrev pub missing_calendar_text : List ℕ
missing_calendar_text = codes "G4 no calendar"
