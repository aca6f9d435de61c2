-- The sheets of schedules (docs/definitions.md, "Runs").
use Rattle.std.specs.Prelude.{◌≡◌, ◌⊎◌, ℕ, Bool, false, if◌then◌else◌, List, [], map}
use Rattle.std.specs.Prelude.{Option, Some, None}
use Rattle.plan_calendar.specs.WorkingDay.{Workdays}
use Rattle.plan_table.specs.Names.{Name, names_behind, resource_key}
use Rattle.plan_table.specs.ShopNames.{instance_names, order_key}
use Rattle.plan_views.specs.LinkColumns.{predecessor_line, resource_line}
use Rattle.plan_sheet.specs.Feed.{events_of}
use Rattle.plan_sheet.specs.Layouts.{Layout}
use Rattle.plan_sheet.specs.Names.{SheetNames}
use Rattle.plan_sheet.specs.Parts.{EventNames}
use Rattle.plan_sheet.specs.PlanEvents as events
use Rattle.plan_sheet.specs.Plans.{layout_svg}
use Rattle.plan_sheet.specs.Reports.{layout_page, undated, IsDatedReport, IsReportBeyond}
use Rattle.plan_sheet.specs.declared.calendar_file.Events.{Events}
use Rattle.plan_sheet.specs.declared.page.Heading.{Heading}
use Rattle.plan_sheet.specs.declared.reports.DayStyle.{DayStyle}
use Rattle.plan_cli.specs.DaysRun.{ShowsDays, TellsNoDays}
use Rattle.plan_documents.specs.Documents.{ids_of_rows, names_of_rows, names_of_lines}
use Rattle.plan_cli.specs.Scheduled.{IsBoundFrom, IsScheduleFrom, TellsNotMade}
use Rattle.plan_cli.specs.declared.calendars.Dates.{Dates}
use Rattle.plan_documents.specs.declared.documents.Plan.{Plan}
use Rattle.plan_documents.specs.declared.documents.Subject.{Subject}
use Rattle.plan_documents.specs.declared.documents.Subject.TheVariants as subject
use Rattle.plan_cli.specs.declared.origins.Origin.{Origin}
use Rattle.plan_print.specs.Digests.{file_digest, instance_digest}
use Rattle.plan_print.specs.Layouts.{layout_of}
use Rattle.plan_print.specs.Links.{row_links}
use Rattle.plan_print.specs.Margins.{HasMargins}
use Rattle.plan_print.specs.declared.sheets.Sheet.{Sheet}
use Rattle.plan_print.specs.declared.sheets.Sheet.TheVariants as sheet

-- the digest of a project file, or of an instance
abbrev pub digest_of : Subject → List ℕ → List ℕ
digest_of (subject.Project given) file = file_digest file
digest_of (subject.Shop instance) file = instance_digest file instance.now

-- the names of the resources of a project, or of the orders of a job shop
abbrev pub legend_names : Subject → List ℕ → List Name
legend_names (subject.Project given) file = names_behind resource_key file
legend_names (subject.Shop instance) file = instance_names order_key instance.now file

-- the ids of events: those of activities, or the names of the orders in a list
abbrev pub event_ids : Bool → Subject → List ℕ → List Name
event_ids listed (subject.Project given) file = ids_of_rows (subject.Project given) file
event_ids listed (subject.Shop instance) file =
    if listed then names_of_rows (subject.Shop instance) file else []

-- the names of the resources of a project, or of the machines of a job shop
abbrev pub event_resources : Subject → List ℕ → List Name
event_resources (subject.Project given) file = legend_names (subject.Project given) file
event_resources (subject.Shop instance) file = names_of_lines (subject.Shop instance) file

-- the names of events in a file, which may be that of a list
abbrev pub event_names : Bool → Subject → List ℕ → EventNames
event_names listed of file =
    record {
      ids = event_ids listed of file;
      names = names_of_rows of file;
      resources = event_resources of file;
    }

-- a text is the calendar file of starts by a choice of events, with this digest and these names
abbrev pub IsIcs : List ℕ → EventNames → Events → Plan → List ℕ → Workdays → List ℕ → Type 0
IsIcs digest names e p starts c =
    events.IsIcs digest names (layout_of p false false) starts (events_of e) c

-- a day that it needs would be after the last date
abbrev pub IsIcsBeyond : Events → Plan → List ℕ → Workdays → Type 0
IsIcsBeyond e p starts c = events.IsIcsBeyond (layout_of p false false) starts (events_of e) c

-- a text is the calendar file of starts by a choice of events, with the names in the file
abbrev pub AreEvents : Bool → Subject → List ℕ → Events → Plan → List ℕ → Workdays → List ℕ → Type 0
AreEvents listed of file e p starts c text =
    IsIcs (digest_of of file) (event_names listed of file) e p starts c text

-- the names of a chart in a file
abbrev pub chart_names : Subject → List ℕ → SheetNames
chart_names of file =
    record {
      lines = names_of_lines of file;
      legend = names_of_rows of file;
      ids = ids_of_rows of file;
      resources = [];
      predecessors = [];
    }

-- a text is the chart of starts, with the names in the file: a line for each activity or machine
abbrev pub IsChart : List ℕ → Bool → Subject → List ℕ → Plan → List ℕ → List ℕ → Type 0
IsChart title listed of file p starts text =
    text ≡ layout_svg title (chart_names of file) (layout_of p false listed) starts

-- the names of a report in a file
abbrev pub report_names : Subject → List ℕ → Plan → SheetNames
report_names of file p =
    record {
      lines = names_of_lines of file;
      legend = legend_names of file;
      ids = ids_of_rows of file;
      resources = map resource_line (row_links p (legend_names of file) (ids_of_rows of file));
      predecessors = map predecessor_line (row_links p (legend_names of file) (ids_of_rows of file));
    }

-- a text is the report of starts without a calendar, with this heading and these names
abbrev pub IsPlainPage : Heading → SheetNames → Layout → Plan → List ℕ → List ℕ → Type 0
IsPlainPage h names l p starts text =
    HasMargins p starts (λ floats slacks. text ≡ layout_page h.title.now h.lower names l starts
    undated (record { floats = floats; slacks = slacks }))

-- a text is the report of starts on a calendar, with this heading and these names
abbrev pub IsDatedPage : Heading → DayStyle → SheetNames → Layout → Plan → List ℕ → Workdays → List ℕ
    → Type 0
IsDatedPage h style names l p starts c text =
    HasMargins p starts (λ floats slacks. IsDatedReport h.title.now h.lower names l starts
    (record { floats = floats; slacks = slacks }) style c text)

-- a day that it shows would be after the last date
abbrev pub IsPageBeyond : DayStyle → Bool → Plan → List ℕ → Workdays → Type 0
IsPageBeyond style by_job p starts c = IsReportBeyond style.hours (layout_of p by_job false) starts c

-- a text is the report of starts, on the dates if there are dates, with these names
abbrev pub IsPage : Heading → Option Dates → DayStyle → SheetNames → Layout → Plan → List ℕ → List ℕ
    → Type 0
IsPage h None style names l p starts = IsPlainPage h names l p starts
IsPage h (Some dates) style names l p starts = ShowsDays dates (IsDatedPage h style names l p starts)

-- the same with the names in the file, which may be that of a list
abbrev pub IsReport : Heading → Option Dates → DayStyle → Bool → Bool → Subject → List ℕ → Plan
    → List ℕ → List ℕ → Type 0
IsReport h dates style by_job listed of file p starts =
    IsPage h dates style (report_names of file p) (layout_of p by_job listed) p starts

-- a line refuses the report of starts
abbrev pub HidesReport : Option Dates → DayStyle → Bool → Plan → List ℕ → List ℕ → Type 0
HidesReport None style by_job p starts line = ⊥
HidesReport (Some dates) style by_job p starts line =
    TellsNoDays dates (IsPageBeyond style by_job p starts) line

-- a text is a sheet of starts, perhaps with a lower bound of the least makespan
abbrev pub IsSheetOf : Bool → Sheet → Subject → List ℕ → Plan → List ℕ → Option ℕ → List ℕ → Type 0
IsSheetOf listed (sheet.Events dates e) of file p starts lower =
    ShowsDays dates (AreEvents listed of file e.now p starts)
IsSheetOf listed (sheet.Chart title) of file p starts lower = IsChart title.now listed of file p starts
IsSheetOf listed (sheet.Report title dates style by_job) of file p starts lower =
    IsReport (record { title = title; lower = lower }) dates style.now by_job listed of file p starts

-- a line refuses a sheet of starts
abbrev pub HidesSheet : Sheet → Plan → List ℕ → List ℕ → Type 0
HidesSheet (sheet.Events dates e) p starts line = TellsNoDays dates (IsIcsBeyond e.now p starts) line
HidesSheet (sheet.Chart title) p starts line = ⊥
HidesSheet (sheet.Report title dates style by_job) p starts line =
    HidesReport dates style.now by_job p starts line

-- a text is a sheet of a plan's schedule; the lower bound is that of the search that found it
pub record IsSheetFrom (listed : Bool) (from : Origin) (shown_as : Sheet) (of : Subject)
    (file : List ℕ) (p : Plan) (text : List ℕ) : Type 0 where
  pub starts : List ℕ
  pub schedule : IsScheduleFrom from p starts
  pub lower : Option ℕ
  pub bound : IsBoundFrom from p starts lower
  pub shown : IsSheetOf listed shown_as of file p starts lower text

-- a line refuses a sheet of a plan's schedule, by its schedule
pub record HidesSheetFrom (from : Origin) (shown_as : Sheet) (p : Plan) (line : List ℕ)
    : Type 0 where
  pub starts : List ℕ
  pub schedule : IsScheduleFrom from p starts
  pub hidden : HidesSheet shown_as p starts line

-- a line refuses the schedule of a plan, or else its sheet
abbrev pub TellsNoSheetFrom : Origin → Sheet → Plan → List ℕ → Type 0
TellsNoSheetFrom from shown_as p line =
    TellsNotMade from p line ⊎ HidesSheetFrom from shown_as p line
