-- The tables of working days as values (docs/definitions.md, "Tables and charts"). The day of an
-- instant is a relation, so these tables are relations too.
use Rattle.std.specs.Prelude.{◌≡◌, ℕ, ◌+◌, ◌<◌, zero, suc, List, [], ◌∷◌, ◌++◌, codes}
use Rattle.jiff_core.specs.declared.civil.date.Date.{Date}
use Rattle.jiff.specs.Words.{date_text}
use Rattle.plan_calendar.specs.WorkingDay.{Workdays, IsWorkingDay}
use Rattle.plan_gantt.specs.CalendarTable.{IsCalendarTable, HasActivityBeyond}
use Rattle.plan_gantt.specs.CalendarTable as texts
use Rattle.plan_gantt.specs.ShopCharts.{IsShopCalendarTable, HasStepBeyond}
use Rattle.plan_gantt.specs.declared.interval.Interval.{Interval}
use Rattle.plan_formats.specs.Cells.{Cell, text, empty}
use Rattle.plan_formats.specs.Columns.{Column}
use Rattle.plan_formats.specs.Tables.{Table}
use Rattle.plan_views.specs.Headings.{right_column}
use Rattle.plan_views.specs.Plans.{Plan, project, shop, count_of, interval_of, front_columns}
use Rattle.plan_views.specs.Plans.{front_of}

-- a cell has the day of an instant
abbrev pub IsDayCell : Workdays → ℕ → Cell → Type 0
IsDayCell calendar t cell =
    (date : Date) × IsWorkingDay calendar t date × (cell ≡ text (date_text date))

-- cells have the days of the first and the last of n instants from a start on; they are empty if n
-- is 0
abbrev pub AreDayCells : Workdays → ℕ → ℕ → Cell → Cell → Type 0
AreDayCells calendar start zero first last = (first ≡ empty) × (last ≡ empty)
AreDayCells calendar start (suc n) first last =
    IsDayCell calendar start first × IsDayCell calendar (start + n) last

-- a row has its front, and the days of an interval
abbrev pub IsDaysRow : Workdays → List Cell → Interval → List Cell → Type 0
IsDaysRow calendar front interval row =
    (first last : Cell) × AreDayCells calendar interval.start interval.duration first last
    × (row ≡ front ++ first ∷ last ∷ [])

-- n rows, numbered from 0; each has its front and the days of its interval
abbrev pub AreDaysRows : Workdays → (ℕ → List Cell) → (ℕ → Interval) → ℕ → List (List Cell)
    → Type 0
AreDaysRows calendar front interval zero rows = rows ≡ []
AreDaysRows calendar front interval (suc n) rows =
    (before : List (List Cell)) × (row : List Cell)
    × AreDaysRows calendar front interval n before
    × IsDaysRow calendar (front n) (interval n) row × (rows ≡ before ++ row ∷ [])

-- the columns of the days
abbrev pub day_columns : List Column
day_columns = right_column (codes "first") (codes "first_day") 12
    ∷ right_column (codes "last") (codes "last_day") 12 ∷ []

-- a table without lines above and below its rows
abbrev pub plain_view_of : List Column → List (List Cell) → Table
plain_view_of columns rows =
    record { above = []; columns = columns; rows = rows; below = [] }

-- the columns for a plan
abbrev pub days_columns : Plan → List Column
days_columns p = front_columns p ++ day_columns

-- a table has the working days of a plan's activities or steps
abbrev pub IsDaysView : Workdays → Plan → List ℕ → Table → Type 0
IsDaysView calendar p starts table =
    (rows : List (List Cell))
    × AreDaysRows calendar (front_of p) (interval_of p starts) (count_of p) rows
    × (table ≡ plain_view_of (days_columns p) rows)

-- a day of some row would be after the last date
abbrev pub HasRowBeyond : Workdays → Plan → List ℕ → Type 0
HasRowBeyond calendar p starts =
    (k : ℕ) × (k < count_of p) × texts.HasDayBeyond calendar (interval_of p starts k)

-- a text is the table of working days
abbrev pub IsDaysTable : Workdays → Plan → List ℕ → List ℕ → Type 0
IsDaysTable calendar (project i) starts bytes =
    IsCalendarTable calendar i.project.network starts bytes
IsDaysTable calendar (shop s) starts bytes = IsShopCalendarTable calendar s starts bytes

-- a day that the text shows would be after the last date
abbrev pub HasDayBeyond : Workdays → Plan → List ℕ → Type 0
HasDayBeyond calendar (project i) starts =
    HasActivityBeyond calendar i.project.network starts
HasDayBeyond calendar (shop s) starts = HasStepBeyond calendar s starts
