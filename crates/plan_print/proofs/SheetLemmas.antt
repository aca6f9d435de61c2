-- The sheets of schedules, and their refusals.
use Rattle.std.proofs.Common.{◌≡◌, inl, inr, ℕ, Bool, false, List, Option, Result, Err, ap, subst, ◌∙◌}
use Rattle.std.specs.Prelude.{IsErrOf}
use Rattle.plan_calendar.specs.Hours.{WorkHours}
use Rattle.plan_calendar.specs.WorkingDay.{Workdays}
use Rattle.plan_table.specs.Names.{Name}
use Rattle.plan_sheet.specs.Names.{SheetNames}
use Rattle.plan_sheet.specs.Reports.{IsReportBeyond}
use Rattle.plan_errors.specs.declared.fault.CliFault.{CliFault}
use Rattle.plan_errors.specs.Output.{Refuses}
use Rattle.plan_cli.specs.Calendars.{IsDated, TellsNoCalendar}
use Rattle.plan_gantt.specs.declared.days.DaysFault.{DaysFault}
use Rattle.plan_gantt.specs.declared.days.DaysFault.TheVariants as days
use Rattle.plan_cli.specs.DaysRun.{TellsBeyond, TellsDaysFault, TellsNoDays}
use Rattle.plan_cli.specs.Scheduled.{IsMadeFrom, TellsNotMade}
use Rattle.plan_cli.specs.declared.calendars.Dates.{Dates}
use Rattle.plan_documents.specs.declared.documents.Plan.{Plan}
use Rattle.plan_documents.specs.declared.documents.Plan.TheVariants as plan
use Rattle.plan_documents.specs.declared.documents.Subject.{Subject}
use Rattle.plan_cli.specs.declared.schedules.Scheduled.{Scheduled}
use Rattle.plan_cli.specs.declared.origins.Origin.{Origin}
use Rattle.plan_documents.proofs.ErrorLemmas.{refuses_as}
use Rattle.plan_print.specs.Layouts.{layout_of}
use Rattle.plan_print.specs.declared.sheets.Sheet.{Sheet}
use Rattle.plan_print.specs.Sheets.{IsSheetOf, HidesSheet, IsSheetFrom, TellsNoSheetFrom}

-- the error of days that are beyond a calendar
pub beyond_told : {A : Type 0} (r : Result A DaysFault) (fault : DaysFault) (e : CliFault) (Beyond : Type 0) → r ≡ Err fault
    → (IsErrOf r days.BeyondCalendar → Beyond) → Refuses (TellsDaysFault fault) e → Refuses (TellsBeyond Beyond) e
beyond_told r fault e Beyond is given t =
    refuses_as (TellsDaysFault fault) (TellsBeyond Beyond) e
    (λ line tells. (given (subst (λ (f : DaysFault). r ≡ Err f) tells.0 is), tells.1)) t

-- a day beyond a calendar refuses days on the dates of the calendar
pub beyond : (dates : Dates) (c : Workdays) (Beyond : Workdays → Type 0) (e : CliFault) → IsDated dates c
    → Refuses (TellsBeyond (Beyond c)) e → Refuses (TellsNoDays dates Beyond) e
beyond dates c Beyond e is t = refuses_as (TellsBeyond (Beyond c)) (TellsNoDays dates Beyond) e (λ line tells. inr (c, is, tells)) t

-- dates that are those of no calendar refuse days
pub no_calendar : (dates : Dates) (Beyond : Workdays → Type 0) (e : CliFault)
    → Refuses (TellsNoCalendar dates) e → Refuses (TellsNoDays dates Beyond) e
no_calendar dates Beyond e t = refuses_as (TellsNoCalendar dates) (TellsNoDays dates Beyond) e (λ line tells. inl tells) t

-- a refusal of the schedule refuses the sheet
pub schedule_refused : (from : Origin) (s : Sheet) (p : Plan) (e : CliFault) → Refuses (TellsNotMade from p) e
    → Refuses (TellsNoSheetFrom from s p) e
schedule_refused from s p e t = refuses_as (TellsNotMade from p) (TellsNoSheetFrom from s p) e (λ line tells. inl tells) t

-- steps that aren't shown don't change the days of a report
pub beyond_same : (hours : Option WorkHours) (p : Plan) (by_job listed : Bool) (starts : List ℕ) (c : Workdays)
    → IsReportBeyond hours (layout_of p by_job listed) starts c → IsReportBeyond hours (layout_of p by_job false) starts c
beyond_same hours (plan.Project i ids) by_job listed starts c late = late
beyond_same hours (plan.Shop s) by_job listed starts c late = late

-- these names of a sheet
abbrev pub names_with : List Name → List Name → List Name → List Name → List Name → SheetNames
names_with lines legend ids resources predecessors =
    record { lines = lines; legend = legend; ids = ids; resources = resources; predecessors = predecessors }

-- names with the same parts
pub names_same : (a b c d e k l m n o : List Name) → a ≡ k → b ≡ l → c ≡ m → d ≡ n → e ≡ o
    → names_with a b c d e ≡ names_with k l m n o
names_same a b c d e k l m n o first second third fourth fifth =
    ap (λ x. names_with x b c d e) first ∙ ap (λ x. names_with k x c d e) second ∙ ap (λ x. names_with k l x d e) third
    ∙ ap (λ x. names_with k l m x e) fourth ∙ ap (λ x. names_with k l m n x) fifth
