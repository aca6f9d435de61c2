-- The output of `plan days` for the bytes that it reads (docs/definitions.md, "Runs").
use Rattle.std.specs.Prelude.{◌≡◌, ◌⊎◌, ℕ, List, Option, Some, None, map}
use denote.Ref.{Bor}
use Rattle.plan_calendar.specs.WorkingDay.{Workdays}
use Rattle.plan_gantt.specs.CalendarFaultText.{calendar_fault_text_of}
use Rattle.plan_calendar.specs.declared.calendar.CalendarFault.TheVariants as fault
use Rattle.plan_gantt.specs.declared.days.DaysFault.{DaysFault}
use Rattle.plan_gantt.specs.declared.days.DaysFault.TheVariants as days
use Rattle.plan_formats.specs.Tables.{Table}
use Rattle.plan_formats.specs.TableText.{text_of}
use Rattle.plan_views.specs.DayTables as views
use Rattle.plan_views.specs.Moments.{AreAllMoments, HasMomentBeyond, moments_view, pair_of}
use Rattle.plan_views.specs.declared.moments.MomentStyle.{MomentStyle}
use Rattle.plan_views.specs.declared.moments.MomentTexts.{MomentTexts}
use Rattle.plan_cli.specs.Calendars.{IsDated, TellsNoCalendar}
use Rattle.plan_cli.specs.PlanRefs.{viewed}
use Rattle.plan_cli.specs.Scheduled.{IsScheduleFrom, TellsNotMade}
use Rattle.plan_cli.specs.declared.calendars.Dates.{Dates}
use Rattle.plan_documents.specs.declared.documents.Plan.{Plan}
use Rattle.plan_cli.specs.declared.origins.Origin.{Origin}

-- a text shows days of the calendar of some texts
abbrev pub ShowsDays : Dates → (Workdays → List ℕ → Type 0) → List ℕ → Type 0
ShowsDays dates IsTable text = (c : Workdays) × IsDated dates c × IsTable c text

-- a line reports that a day of the table is beyond the calendar
abbrev pub TellsBeyond : Type 0 → List ℕ → Type 0
TellsBeyond HasBeyond line = HasBeyond × (line ≡ calendar_fault_text_of fault.BeyondCalendar)

-- a line refuses a table of days: the texts are those of no calendar, or else a day is beyond it
abbrev pub TellsNoDays : Dates → (Workdays → Type 0) → List ℕ → Type 0
TellsNoDays dates HasBeyond line =
    TellsNoCalendar dates line
    ⊎ ((c : Workdays) × IsDated dates c × TellsBeyond (HasBeyond c) line)

-- a line gives the error of a table of days, which isn't that of memory
abbrev pub TellsDaysFault : DaysFault → List ℕ → Type 0
TellsDaysFault first line =
    (first ≡ days.BeyondCalendar) × (line ≡ calendar_fault_text_of fault.BeyondCalendar)

-- a table has the moments of starts on a calendar, in a style
pub record AreMomentsIn (style : MomentStyle) (p : Plan) (starts : List ℕ) (c : Workdays)
    (t : Table) : Type 0 where
  pub rows : List MomentTexts
  pub moments : AreAllMoments c style (viewed p) starts rows
  pub shown : t ≡ moments_view (viewed p) style (map pair_of rows)

-- a text is the table of the working days of starts on a calendar; with a style it has moments
abbrev pub IsDaysTable : Option (Bor MomentStyle) → Plan → List ℕ → Workdays → List ℕ → Type 0
IsDaysTable None p starts c text = views.IsDaysTable c (viewed p) starts text
IsDaysTable (Some style) p starts c text =
    (t : Table) × AreMomentsIn style.now p starts c t × (text ≡ text_of t)

-- a day of starts is beyond the calendar
abbrev pub HasDayBeyond : Option (Bor MomentStyle) → Plan → List ℕ → Workdays → Type 0
HasDayBeyond None p starts c = views.HasDayBeyond c (viewed p) starts
HasDayBeyond (Some style) p starts c = HasMomentBeyond c style.now (viewed p) starts

-- a text is the table of working days of a plan's schedule
pub record IsDaysFrom (from : Origin) (dates : Dates) (style : Option (Bor MomentStyle)) (p : Plan)
    (text : List ℕ) : Type 0 where
  pub starts : List ℕ
  pub schedule : IsScheduleFrom from p starts
  pub shown : ShowsDays dates (IsDaysTable style p starts) text

-- a line refuses the days of a plan's schedule, by its schedule
pub record HidesDays (from : Origin) (dates : Dates) (style : Option (Bor MomentStyle)) (p : Plan)
    (line : List ℕ) : Type 0 where
  pub starts : List ℕ
  pub schedule : IsScheduleFrom from p starts
  pub hidden : TellsNoDays dates (HasDayBeyond style p starts) line

-- a line refuses the schedule of a plan, or else its days
abbrev pub TellsNoDaysFrom : Origin → Dates → Option (Bor MomentStyle) → Plan → List ℕ → Type 0
TellsNoDaysFrom from dates style p line =
    TellsNotMade from p line ⊎ HidesDays from dates style p line
