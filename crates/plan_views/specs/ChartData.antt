-- Gantt charts as JSON and CSV (docs/definitions.md, "Tables and charts").
use Rattle.std.specs.Prelude.{ℕ, Bool, true, if◌then◌else◌, List, [], ◌∷◌, ◌++◌, Option, Some, None}
use Rattle.std.specs.Prelude.{is_some, map, codes}
use Rattle.std.specs.List.{flat_map}
use Rattle.serde_json.specs.Data.{Data, Members, no_members, array, object, put}
use Rattle.serde_json.specs.View.{items_of}
use Rattle.plan_gantt.specs.Chart.{chart_unit}
use Rattle.plan_table.specs.Names.{Name, first_name}
use Rattle.plan_formats.specs.Cells.{Cell, number, value_of}
use Rattle.plan_formats.specs.Columns.{Column}
use Rattle.plan_formats.specs.JsonData.{with_number}
use Rattle.plan_formats.specs.NameColumns.{name_cell}
use Rattle.plan_formats.specs.Tables.{Table}
use Rattle.plan_views.specs.Bars.{Bar, ChartRow}
use Rattle.plan_views.specs.Charts.{Chart, word_of}
use Rattle.plan_views.specs.Headings.{right_column, job_column, step_column}
use Rattle.plan_views.specs.Headings.{start_column, end_column}
use Rattle.plan_views.specs.declared.chart.Owner.{Owner}
use Rattle.plan_views.specs.declared.chart.Owner.TheVariants as owner

-- members with the numbers of a step, if there is one
abbrev pub with_step : Option (ℕ × ℕ) → Members → Members
with_step None members = members
with_step (Some x) members =
    with_number (codes "step") x.1 (with_number (codes "job") x.0 members)

-- a bar as an object
abbrev pub bar_data : Bar → Data
bar_data b = object (with_step b.step
    (with_number (codes "end") b.end (with_number (codes "start") b.start no_members)))

-- bars as an array of objects
abbrev pub bars_data : List Bar → Data
bars_data bars = array (items_of (map bar_data bars))

-- members with the text of a number under a word, if there are texts; a number without one has
-- `null`
abbrev pub with_text : List ℕ → List Name → ℕ → Members → Members
with_text word [] n members = members
with_text word (text ∷ texts) n members =
    put word (value_of (name_cell (text ∷ texts) n)) members

-- a row as an object, with the id and the name of its number
abbrev pub row_data : Owner → List Name → List Name → ChartRow → Data
row_data owner ids names r =
    object (with_text (codes "id") ids r.number (with_text (codes "name") names r.number
    (put (codes "bars") (bars_data r.bars) (with_number (word_of owner) r.number no_members))))

-- a number has a row: it has an id, or there are no ids
abbrev pub has_row : List Name → ℕ → Bool
has_row [] n = true
has_row (id ∷ ids) n = is_some (first_name n (id ∷ ids))

-- the object of a row, if its number has one
abbrev pub row_objects : Owner → List Name → List Name → ChartRow → List Data
row_objects owner ids names r =
    if has_row ids r.number then row_data owner ids names r ∷ [] else []

-- rows as an array of objects
abbrev pub rows_data : Owner → List Name → List Name → List ChartRow → Data
rows_data owner ids names rows = array (items_of (flat_map (row_objects owner ids names) rows))

-- the ids of the rows: machines have none
abbrev pub row_ids : Owner → List Name → List Name
row_ids owner.Activity ids = ids
row_ids owner.Machine ids = []

-- a chart as an object: the makespan, the number of instants in a cell of its text, and its rows,
-- those of activities with their ids
abbrev pub id_chart_data : List Name → List Name → Chart → Data
id_chart_data ids names c =
    object (put (codes "rows") (rows_data c.owner (row_ids c.owner ids) names c.rows)
    (with_number (codes "unit") (chart_unit c.makespan)
    (with_number (codes "makespan") c.makespan no_members)))

-- the same without ids, with all rows
abbrev pub chart_data : List Name → Chart → Data
chart_data names c = id_chart_data [] names c

-- the columns of the bars of a chart
abbrev pub bar_columns : Owner → List Column
bar_columns owner.Activity =
    right_column (codes "activity") (codes "activity") 4 ∷ start_column ∷ end_column ∷ []
bar_columns owner.Machine =
    right_column (codes "machine") (codes "machine") 4 ∷ job_column ∷ step_column
    ∷ start_column ∷ end_column ∷ []

-- the cells of a step: the job and the step's number in it
abbrev pub step_cells : Option (ℕ × ℕ) → List Cell
step_cells None = []
step_cells (Some x) = number x.0 ∷ number x.1 ∷ []

-- the cells of a bar in the row with a number
abbrev pub bar_cells : ℕ → Bar → List Cell
bar_cells n b = number n ∷ step_cells b.step ++ number b.start ∷ number b.end ∷ []

-- the cells of the bars of a row, and of rows
abbrev pub row_bars : ChartRow → List (List Cell)
row_bars r = map (bar_cells r.number) r.bars

abbrev pub rows_bars : List ChartRow → List (List Cell)
rows_bars rows = flat_map row_bars rows

-- the bars of a chart as a table
abbrev pub bars_of : Chart → Table
bars_of c = record {
  above = [];
  columns = bar_columns c.owner;
  rows = rows_bars c.rows;
  below = [];
}
