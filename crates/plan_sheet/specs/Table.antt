-- The table of a report (docs/definitions.md, "Sheets"): one definition for each element.
use Rattle.std.specs.Prelude.{ℕ, ◌-◌, ◌/◌, ◌%◌, is_some, Bool, false, if◌then◌else◌, nat_lt, Option, Some, None, List, [], ◌++◌, length, map, codes, slice_get}
use Rattle.std.specs.List.{flat_map}
use Rattle.std.specs.Fmt.{decimal}
use Rattle.jiff_core.specs.declared.civil.date.Date.{Date}
use Rattle.plan_table.specs.Names.{Name, name_of}
use Rattle.plan_sheet.specs.Axis.{units_of}
use Rattle.plan_sheet.specs.Chart.{Chart, chart_of}
use Rattle.plan_calendar.specs.Hours.{WorkHours}
use Rattle.plan_sheet.specs.Moments.{begin_text, end_text}
use Rattle.plan_sheet.specs.Escape.{escaped}
use Rattle.plan_sheet.specs.Names.{id_text, label, name_text}
use Rattle.plan_sheet.specs.declared.bars.Bar.{Bar}
use Rattle.plan_sheet.specs.declared.table.Table as declared
use Rattle.plan_sheet.specs.declared.styles.TheConstants.{DAY_HEADS, FIRST_HEADS, FLOAT_HEAD, HEADS_TO, ID_HEADS, LINK_HEADS, MACHINE_HEAD, NAME_CELL, ROW_NAME}
use Rattle.plan_sheet.specs.declared.styles.TheConstants.{ROW_NUMBER, SLACK_HEAD, TABLE_FROM, TABLE_TO, TIME_HEADS}

-- what a table shows: the bars of a chart, their days if it has columns for them, perhaps with
-- weekdays, their machines with names if it has a column for them, the floats and slacks of
-- activities, if there are any, and whether it is that of a list: it has ids, and columns for the
-- resources and the predecessors of activities
pub record Table : Type 0 where
  pub chart : Chart
  pub dated : Bool
  pub weekdays : Bool
  pub hours : Option WorkHours
  pub listed : Bool
  pub shop : Bool
  pub machines : List Name
  pub floats : List ℕ
  pub resources : List Name
  pub predecessors : List Name

-- the same, as the program keeps it
abbrev pub table_of : declared.Table → Table
table_of t =
    record {
      chart = chart_of t.chart.now;
      dated = t.dated;
      weekdays = t.style.now.weekdays;
      hours = t.style.now.hours;
      listed = t.listed;
      shop = t.shop;
      machines = map name_of t.machines.now;
      floats = t.floats.now;
      resources = map name_of t.resources.now;
      predecessors = map name_of t.predecessors.now;
    }

-- a text, if a list that it stands for has an element
abbrev pub text_if : ℕ → List ℕ → List ℕ
text_if count text = if nat_lt count 1 then [] else text

-- a text, if it is wanted
abbrev pub text_for : Bool → List ℕ → List ℕ
text_for wanted text = if wanted then text else []

-- the heads of the columns behind the times
unfoldable pub last_heads : Table → List ℕ
last_heads table =
    text_for table.dated DAY_HEADS.now ++ text_if (length table.floats) FLOAT_HEAD.now
    ++ text_if (length table.chart.slacks) SLACK_HEAD.now ++ text_for table.listed LINK_HEADS.now

-- the heads of the first columns: those of numbers, or of ids, and of names
abbrev pub first_heads : Bool → List ℕ
first_heads listed = if listed then ID_HEADS.now else FIRST_HEADS.now

-- the first row, which a printed page repeats
unfoldable pub heads : Table → List ℕ
heads table =
    first_heads table.listed ++ text_for table.shop MACHINE_HEAD.now ++ TIME_HEADS.now ++ last_heads table ++ HEADS_TO.now

-- the number of a step behind a dot; nothing for an activity
abbrev pub step_dot : ℕ → List ℕ
step_dot step = if nat_lt step 1 then [] else codes "." ++ decimal step

-- the id or the number of an activity, or the numbers of a job and a step
unfoldable pub number_text : List Name → Bar → List ℕ
number_text ids bar = id_text ids bar.number ++ step_dot bar.step

-- a number and a name
unfoldable pub first_cells : List ℕ → List ℕ → List ℕ
first_cells number name = ROW_NUMBER.now ++ number ++ ROW_NAME.now ++ name ++ codes "</td>"

-- a cell with a name
unfoldable pub name_cell : List ℕ → List ℕ
name_cell name = NAME_CELL.now ++ name ++ codes "</td>"

-- the machine of a step, if the table has a column for it
abbrev pub machine_cell : Table → Bar → List ℕ
machine_cell table bar = if table.shop then name_cell (escaped (label table.machines bar.machine)) else []

-- a cell with a number
unfoldable pub number_cell : ℕ → List ℕ
number_cell n = codes "<td>" ++ decimal n ++ codes "</td>"

-- duration, start and end
unfoldable pub time_cells : Bar → List ℕ
time_cells bar = number_cell (bar.to - bar.from) ++ number_cell bar.from ++ number_cell bar.to

-- cells with two days
unfoldable pub two_days : List ℕ → List ℕ → List ℕ
two_days first last = codes "<td>" ++ first ++ codes "</td><td>" ++ last ++ codes "</td>"

-- the days of the first and the last time unit; hyphens for a bar that takes no time
unfoldable pub both_days : Bool → Option WorkHours → List Date → Bar → List ℕ
both_days weekdays hours days bar =
    if nat_lt bar.from bar.to
    then two_days (begin_text weekdays hours days bar.from) (end_text weekdays hours days (bar.to - 1))
    else codes "<td>-</td><td>-</td>"

-- the same, if the table has columns for days
abbrev pub day_cells : Table → Bar → List ℕ
day_cells table bar =
    if table.dated then both_days table.weekdays table.hours table.chart.days bar else []

-- floats and slacks are in days: for a list on a calendar
abbrev pub in_days : Table → Bool
in_days table = if table.dated then table.listed else false

-- a cell with a number of working days; with hours, with days and hours
unfoldable pub day_part : ℕ → List ℕ
day_part n = codes "<td>" ++ decimal n ++ codes " d"

unfoldable pub hour_part : ℕ → List ℕ
hour_part n = codes " " ++ decimal n ++ codes " h"

abbrev pub days_cell : Bool → ℕ → ℕ → List ℕ
days_cell timed per_day n =
    if timed then day_part (n / units_of per_day) ++ hour_part (n % units_of per_day) ++ codes "</td>"
    else day_part n ++ codes "</td>"

-- a cell with a number of time units: in days for a list on a calendar
abbrev pub margin_cell : Table → ℕ → List ℕ
margin_cell table n =
    if in_days table then days_cell (is_some table.hours) table.chart.per_day n else number_cell n

-- a cell with the number of an activity in a list of numbers, if the list has one
abbrev pub cell_of : Table → Option ℕ → List ℕ
cell_of table None = []
cell_of table (Some n) = margin_cell table n

abbrev pub cell_at : Table → List ℕ → ℕ → List ℕ
cell_at table ns number = cell_of table (slice_get ns (number - 1))

-- the cells behind the times
unfoldable pub last_cells : Table → Bar → List ℕ
last_cells table bar =
    day_cells table bar ++ cell_at table table.floats bar.number
    ++ cell_at table table.chart.slacks bar.number

-- the resources and the predecessors of an activity, if the table has columns for them
unfoldable pub link_cells : Table → Bar → List ℕ
link_cells table bar =
    if table.listed
    then name_cell (escaped (name_text table.resources bar.number))
    ++ name_cell (escaped (name_text table.predecessors bar.number)) else []

-- the front of a row: number, name and machine
unfoldable pub row_front : Table → Bar → List ℕ
row_front table bar =
    first_cells (escaped (number_text table.chart.ids bar))
    (escaped (name_text table.chart.names bar.number)) ++ machine_cell table bar

-- a row
unfoldable pub row_of : Table → Bar → List ℕ
row_of table bar =
    row_front table bar ++ time_cells bar ++ last_cells table bar ++ link_cells table bar
    ++ codes "</tr>\n"

-- the rows of all bars
abbrev pub rows_of : Table → List ℕ
rows_of table = flat_map (row_of table) table.chart.bars

-- a table, which scrolls in itself if it is wider than the page
unfoldable pub table_text : Table → List ℕ
table_text table =
    TABLE_FROM.now ++ heads table ++ rows_of table ++ TABLE_TO.now
