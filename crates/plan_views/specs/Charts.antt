-- Gantt charts as values (docs/definitions.md, "Tables and charts"; Gantt 1910, Clark 1922).
use Rattle.std.specs.Prelude.{ℕ, ◌+◌, List, [], ◌∷◌, ◌++◌, Option, Some, None, map, nat_eq}
use Rattle.std.specs.Prelude.{codes, slice_index, string_bytes}
use Rattle.std.specs.List.{range_with_len}
use Rattle.plan_sgs.specs.Instances.{Planned}
use Rattle.plan_shop.specs.Shop.{JobShop, count_steps, machine_of, those_below}
use Rattle.plan_gantt.specs.Chart.{chart_text, chart_unit, chart_cells, cell_texts, unit_line}
use Rattle.plan_gantt.specs.Charts.{activity_intervals}
use Rattle.plan_gantt.specs.ShopCharts.{machine_intervals}
use Rattle.plan_gantt.specs.ShopTable.{job_number, step_number}
use Rattle.plan_table.specs.Names.{Name}
use Rattle.plan_formats.specs.Cells.{Cell, number, text}
use Rattle.plan_formats.specs.Columns.{Column}
use Rattle.plan_formats.specs.NamedTables.{with_names}
use Rattle.plan_formats.specs.IdTables.{with_ids}
use Rattle.plan_formats.specs.Tables.{Table}
use Rattle.plan_formats.specs.TableText.{text_of}
use Rattle.plan_views.specs.Bars.{Bar, ChartRow, row_of, intervals_of}
use Rattle.plan_views.specs.Headings.{right_column, line_column}
use Rattle.plan_views.specs.Plans.{Plan, project, shop, count_of, duration_of}
use Rattle.plan_views.specs.declared.chart.Chart as declared
use Rattle.plan_views.specs.declared.chart_texts.DrawnRow as declared_row
use Rattle.plan_views.specs.declared.chart.Owner.{Owner}
use Rattle.plan_views.specs.declared.chart.Owner.TheVariants as owner

-- a chart: the makespan, what its rows belong to, and its rows
pub record Chart : Type 0 where
  pub makespan : ℕ
  pub owner : Owner
  pub rows : List ChartRow

-- a chart, as the program keeps it
abbrev pub chart_of : declared.Chart → Chart
chart_of c = record { makespan = c.makespan; owner = c.owner; rows = map row_of c.rows.items }

-- the numbers of the step in row k of a table, none for an activity
abbrev pub step_at : Plan → ℕ → Option (ℕ × ℕ)
step_at (project i) k = None
step_at (shop s) k = Some (job_number s k, step_number s k)

-- the bar of the activity or step in row k of a table
abbrev pub bar_at : Plan → List ℕ → ℕ → Bar
bar_at p starts k = record {
  start = slice_index starts k;
  end = slice_index starts k + duration_of p k;
  step = step_at p k;
}

-- the row of activity k + 1
abbrev pub activity_row : Planned → List ℕ → ℕ → ChartRow
activity_row i starts k = record { number = k + 1; bars = bar_at (project i) starts k ∷ [] }

-- the row of machine m: a bar for each of its steps
abbrev pub machine_row : JobShop → List ℕ → ℕ → ChartRow
machine_row s starts m = record {
  number = m;
  bars = map (bar_at (shop s) starts)
      (those_below (count_steps s) (λ x. nat_eq (machine_of s x) m));
}

-- the rows of a schedule: one for each activity of a project, numbered from 1, or for each machine
-- of a job shop, numbered from 0
abbrev pub owner_of : Plan → Owner
owner_of (project i) = owner.Activity
owner_of (shop s) = owner.Machine

abbrev pub chart_rows : Plan → List ℕ → List ChartRow
chart_rows (project i) starts =
    map (activity_row i starts) (range_with_len 0 (count_of (project i)))
chart_rows (shop s) starts = map (machine_row s starts) (range_with_len 0 s.machines)

-- the chart of a schedule
abbrev pub chart_view_of : Plan → List ℕ → ℕ → Chart
chart_view_of p starts ends =
    record { makespan = ends; owner = owner_of p; rows = chart_rows p starts }

-- its text
abbrev pub chart_text_of : Plan → List ℕ → ℕ → List ℕ
chart_text_of (project i) starts ends =
    chart_text ends (activity_intervals i.project.network starts) 1 (count_of (project i))
chart_text_of (shop s) starts ends = chart_text ends (machine_intervals s starts) 0 s.machines

-- the word of an owner
abbrev pub word_of : Owner → List ℕ
word_of owner.Activity = codes "activity"
word_of owner.Machine = codes "machine"

-- the cells of a row between bars, behind a blank
abbrev pub cells_line : ℕ → ChartRow → List ℕ
cells_line makespan row = codes " |"
    ++ cell_texts (chart_unit makespan) (intervals_of row.bars) (chart_cells makespan)
    ++ codes "|"

-- the lines of a chart as a table: the number and the cells of each row
abbrev pub line_columns : Owner → List Column
line_columns owner =
    right_column (word_of owner) (word_of owner) 4 ∷ line_column (codes "cells") ∷ []

abbrev pub cells_row : ℕ → ChartRow → List Cell
cells_row makespan row = number row.number ∷ text (cells_line makespan row) ∷ []

-- a row with its cells, as the program keeps it
abbrev pub drawn_cells : declared_row.DrawnRow → List Cell
drawn_cells r = number r.number ∷ text (string_bytes r.line) ∷ []

abbrev pub lines_of : Chart → Table
lines_of c = record {
  above = [];
  columns = line_columns c.owner;
  rows = map (cells_row c.makespan) c.rows;
  below = [];
}

-- the text of a chart, each row with its name: the number of instants in a cell, and the lines
abbrev pub named_text_of : List Name → Chart → List ℕ
named_text_of names c = unit_line c.makespan ++ text_of (with_names names (lines_of c))

-- the same with the ids of the activities in the place of their numbers
abbrev pub id_text_of : List Name → List Name → Chart → List ℕ
id_text_of ids names c =
    unit_line c.makespan ++ text_of (with_ids ids (with_names names (lines_of c)))
