-- The reports of projects and job shops (docs/definitions.md, "Sheets").
use Rattle.std.specs.Prelude.{◌≡◌, ℕ, Bool, true, false, List, [], Option, None}
use Rattle.jiff_core.specs.declared.civil.date.Date.{Date}
use Rattle.plan_calendar.specs.WorkingDay.{Workdays}
use Rattle.plan_calendar.specs.Hours.{WorkHours}
use Rattle.plan_table.specs.Names.{Name}
use Rattle.plan_sheet.specs.Axis.{axis_to}
use Rattle.plan_sheet.specs.Bars.{greatest_end}
use Rattle.plan_sheet.specs.Chart.{Chart}
use Rattle.plan_sheet.specs.Days.{AreDays, HasDayBeyond}
use Rattle.plan_sheet.specs.Escape.{markup_of}
use Rattle.plan_sheet.specs.Layouts.{Layout, activities, steps, bars_of, lines_of, shown_bars}
use Rattle.plan_sheet.specs.Layouts.{bar_ids, row_names, bar_names, machine_names, has_machines}
use Rattle.plan_sheet.specs.Moments.{day_count, per_day_of}
use Rattle.plan_sheet.specs.Names.{SheetNames, has_ids}
use Rattle.plan_sheet.specs.Page.{page}
use Rattle.plan_sheet.specs.Table.{Table}
use Rattle.plan_sheet.specs.Usage.{use_section}
use Rattle.plan_sheet.specs.declared.reports.Margins as declared_margins
use Rattle.plan_sheet.specs.declared.reports.Calendared as declared_calendared
use Rattle.plan_sheet.specs.declared.reports.DayStyle.{DayStyle}

-- the floats and the slacks of activities, from activity 1 on
pub record Margins : Type 0 where
  pub floats : List ℕ
  pub slacks : List ℕ

-- the same, as the program keeps it
abbrev pub margins_of : declared_margins.Margins → Margins
margins_of m = record { floats = m.floats.now; slacks = m.slacks.now }

-- whether a report has columns for days, how these are shown, and its days
pub record Calendared : Type 0 where
  pub dated : Bool
  pub weekdays : Bool
  pub hours : Option WorkHours
  pub days : List Date

-- the same, as the program keeps it
abbrev pub calendared_of : declared_calendared.Calendared → Calendared
calendared_of c =
    record {
      dated = c.dated;
      weekdays = c.style.now.weekdays;
      hours = c.style.now.hours;
      days = c.days.now;
    }

-- the style of a date for each time unit
abbrev pub plain_style : DayStyle
plain_style = record { weekdays = false; hours = None }

-- a report without a calendar
abbrev pub undated : Calendared
undated = record { dated = false; weekdays = false; hours = None; days = [] }

-- a report by a calendar with these days
abbrev pub dated_by : DayStyle → List Date → Calendared
dated_by style days =
    record { dated = true; weekdays = style.weekdays; hours = style.hours; days = days }

-- the chart of a schedule with these slacks
abbrev pub layout_chart : SheetNames → Layout → List ℕ → Calendared → List ℕ → Chart
layout_chart names l starts on slacks =
    record {
      span = axis_to on.days (day_count on.hours (greatest_end (bars_of l starts)));
      days = on.days;
      per_day = per_day_of on.hours;
      lines = lines_of l names.ids;
      ids = bar_ids l names.ids;
      rows = row_names l names.lines names.legend;
      names = bar_names l names.lines names.legend;
      bars = shown_bars l names.ids (bars_of l starts);
      slacks = slacks;
    }

-- the table of a chart; it is that of a list if its bars have ids
abbrev pub layout_table : SheetNames → Layout → Calendared → Margins → Chart → Table
layout_table names l on margins chart =
    record {
      chart = chart;
      dated = on.dated;
      weekdays = on.weekdays;
      hours = on.hours;
      listed = has_ids (bar_ids l names.ids);
      shop = has_machines l;
      machines = machine_names l names.lines;
      floats = margins.floats;
      resources = names.resources;
      predecessors = names.predecessors;
    }

-- the section of a project's resources; a job shop has none
abbrev pub section_of : Layout → Chart → List Name → List ℕ → ℕ → List ℕ
section_of (activities i) chart legend starts makespan =
    use_section chart legend i starts makespan
section_of (steps s by_job brief) chart legend starts makespan = []

-- the report of a schedule with these floats and slacks, and perhaps a lower bound of the least
-- makespan
unfoldable pub layout_page : List ℕ → Option ℕ → SheetNames → Layout → List ℕ → Calendared
    → Margins → List ℕ
layout_page title lower names l starts on margins =
    page title lower (greatest_end (bars_of l starts))
    (layout_table names l on margins (layout_chart names l starts on margins.slacks))
    (section_of l (layout_chart names l starts on margins.slacks) names.legend starts
    (greatest_end (bars_of l starts)))

-- a text has the tags and quotes of one with this property
abbrev pub HasMarkupOf : List ℕ → (List ℕ → Type 0) → Type 0
HasMarkupOf text Is = (other : List ℕ) × Is other × (markup_of text ≡ markup_of other)

-- the working days of a schedule by a calendar, up to its greatest end
abbrev pub AreReportDays : Option WorkHours → Layout → List ℕ → Workdays → List Date → Type 0
AreReportDays hours l starts calendar days =
    AreDays calendar (day_count hours (greatest_end (bars_of l starts))) days

-- a text is the report of a schedule by a calendar
pub record IsDatedReport (title : List ℕ) (lower : Option ℕ) (names : SheetNames) (l : Layout)
    (starts : List ℕ) (margins : Margins) (style : DayStyle) (calendar : Workdays)
    (text : List ℕ) : Type 0 where
  pub days : List Date
  pub are : AreReportDays style.hours l starts calendar days
  pub shown : text ≡ layout_page title lower names l starts (dated_by style days) margins

-- a day that it shows would be after the last date
abbrev pub IsReportBeyond : Option WorkHours → Layout → List ℕ → Workdays → Type 0
IsReportBeyond hours l starts calendar =
    HasDayBeyond calendar (day_count hours (greatest_end (bars_of l starts)))
