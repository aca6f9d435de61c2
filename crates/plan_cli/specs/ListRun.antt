-- The output of `plan solve` and `plan days` with `--format list` for the bytes that they read
-- (docs/definitions.md, "Runs").
use Rattle.std.specs.Prelude.{◌≡◌, ◌⊎◌, ℕ, ◌≤◌, ◌<◌, List, [], Option, Some, None, codes, length}
use Rattle.plan_psplib.specs.Plain.{longest_text}
use Rattle.plan_calendar.specs.WorkingDay.{Workdays}
use Rattle.plan_gantt.specs.CalendarFaultText.{calendar_fault_text_of}
use Rattle.plan_calendar.specs.declared.calendar.CalendarFault.TheVariants as calendars
use Rattle.plan_report.specs.Slack.{AreSlacks, RefusesSlack}
use Rattle.plan_report.specs.declared.slack.SlackFault.{SlackFault}
use Rattle.plan_table.specs.ProjectText.{project_text}
use Rattle.plan_table.specs.Table.{Table}
use Rattle.plan_spreadsheet.specs.Options.{Options, options_of}
use Rattle.plan_spreadsheet.specs.declared.options.Options as declared
use Rattle.plan_list_back.specs.ListBack.{IsBack, IsReadAs, SameProject, Times}
use Rattle.plan_documents.specs.Documents.{IsOfSubject, RefusesSubject, problem_of}
use Rattle.plan_documents.specs.ListOptions.{RefusesOfPrepared}
use Rattle.plan_documents.specs.Lists.{RefusesReading}
use Rattle.plan_documents.specs.declared.documents.Plan.{Plan}
use Rattle.plan_documents.specs.declared.documents.Plan.TheVariants as plan
use Rattle.plan_documents.specs.declared.documents.Subject.{Subject}
use Rattle.plan_cli.specs.Calendars.{IsDated, TellsNoCalendar}
use Rattle.plan_cli.specs.ListTimes.{AreTimes, HasDayBeyond}
use Rattle.plan_cli.specs.Scheduled.{IsScheduleFrom, TellsNotMade}
use Rattle.plan_cli.specs.SlackRun.{TellsSlackFault}
use Rattle.plan_cli.specs.declared.calendars.Dates.{Dates}
use Rattle.plan_cli.specs.declared.origins.Origin.{Origin}

-- the options of a list, or none
abbrev pub options_in : Option declared.Options → Options
options_in None = record { renames = []; ignored = []; unit = None }
options_in (Some o) = options_of o

-- there is a calendar if there are dates, and it is theirs
abbrev pub IsCalendarOf : Option Dates → Option Workdays → Type 0
IsCalendarOf None calendar = calendar ≡ None
IsCalendarOf (Some dates) calendar = (c : Workdays) × IsDated dates c × (calendar ≡ Some c)

-- times are those of the activities of a table in a plan's schedule
pub record AreTimesIn (from : Origin) (dates : Option Dates) (t : Table) (p : Plan)
    (times : List Times) : Type 0 where
  pub starts : List ℕ
  pub schedule : IsScheduleFrom from p starts
  pub slacks : List ℕ
  pub are : AreSlacks (problem_of p) starts slacks
  pub calendar : Option Workdays
  pub dated : IsCalendarOf dates calendar
  pub shown : AreTimes calendar t starts slacks times

-- A text is the list of a file with the times of the activities of a table. The project file of the
-- table is scheduled. The text means the same as the file.
pub record IsTimed (from : Origin) (dates : Option Dates) (of : Subject) (o : Options)
    (file : List ℕ) (table : Table) (text : List ℕ) : Type 0 where
  pub times : List Times
  pub timed : IsOfSubject of (AreTimesIn from dates table) (project_text table) times
  pub back : IsBack times file text
  pub same : SameProject o [] file text

-- a text is the list of a file with the times of the activities in the table that it is read as
pub record IsTimedList (from : Origin) (dates : Option Dates) (of : Subject)
    (o : Option declared.Options) (file text : List ℕ) : Type 0 where
  pub short : length file ≤ longest_text
  pub table : Table
  pub read : IsReadAs (options_in o) [] file table
  pub timed : IsTimed from dates of (options_in o) file table text

-- ---- errors

-- a line reports that the file is no list of activities, or that the list can't have its times
abbrev pub TellsNoList : List ℕ → Type 0
TellsNoList line = (line ≡ codes "T3 no column duration") ⊎ (line ≡ codes "T1 too long")
    ⊎ (line ≡ codes "T4 column start, finish or slack twice")

-- a line refuses the dates, if there are any
abbrev pub TellsNoDates : Option Dates → List ℕ → Type 0
TellsNoDates None line = ⊥
TellsNoDates (Some dates) line = TellsNoCalendar dates line

-- a line reports that a day of the times is beyond the calendar, if there is one
abbrev pub TellsDayBeyond : Option Dates → Table → List ℕ → List ℕ → Type 0
TellsDayBeyond None t starts line = ⊥
TellsDayBeyond (Some dates) t starts line =
    ((c : Workdays) × IsDated dates c × HasDayBeyond (Some c) t starts)
    × (line ≡ calendar_fault_text_of calendars.BeyondCalendar)

-- a line gives the reason why a plan's schedule has no slack
abbrev pub TellsNoSlackIn : Plan → List ℕ → List ℕ → Type 0
TellsNoSlackIn p starts line =
    (first : SlackFault) × RefusesSlack (problem_of p) starts first × TellsSlackFault first line

-- a line refuses the times of a plan's schedule, by its schedule
pub record HidesTimes (from : Origin) (dates : Option Dates) (t : Table) (p : Plan)
    (line : List ℕ) : Type 0 where
  pub starts : List ℕ
  pub schedule : IsScheduleFrom from p starts
  pub hidden : TellsNoSlackIn p starts line ⊎ TellsNoDates dates line
      ⊎ TellsDayBeyond dates t starts line

-- a line refuses the times of a plan; those of a job shop are refused
abbrev pub TellsNoTimes : Origin → Option Dates → Table → Plan → List ℕ → Type 0
TellsNoTimes from dates t (plan.Project i ids) line =
    TellsNotMade from (plan.Project i ids) line
    ⊎ HidesTimes from dates t (plan.Project i ids) line
TellsNoTimes from dates t (plan.Shop s) line = TellsNoList line

-- a line refuses the times of the table that a file is read as
abbrev pub RefusesTable : Origin → Option Dates → Subject → Option declared.Options → List ℕ
    → List ℕ → Type 0
RefusesTable from dates of o file line = (t : Table) × IsReadAs (options_in o) [] file t
    × RefusesSubject of (TellsNoTimes from dates t) (project_text t) line

-- a line refuses a file that isn't too long: what is read of it, or else its times
abbrev pub RefusesShort : Origin → Option Dates → Subject → Option declared.Options → List ℕ
    → List ℕ → Type 0
RefusesShort from dates of o file line =
    RefusesOfPrepared o [] (RefusesReading of) file line ⊎ RefusesTable from dates of o file line

-- a line refuses a file: it is no list of activities, or else its contents or its times are refused
abbrev pub RefusesTimedList : Origin → Option Dates → Subject → Option declared.Options → List ℕ
    → List ℕ → Type 0
RefusesTimedList from dates of o file line =
    TellsNoList line ⊎ ((length file ≤ longest_text) × RefusesShort from dates of o file line)
