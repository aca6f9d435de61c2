-- The table of a schedule as a value (docs/definitions.md, "Tables and charts").
use Rattle.std.specs.Prelude.{ℕ, ◌+◌, List, [], ◌∷◌, ◌++◌, slice_index}
use Rattle.plan_gantt.specs.ScheduleTable.{schedule_table_text}
use Rattle.plan_gantt.specs.ShopTable.{shop_table_text}
use Rattle.plan_formats.specs.Cells.{Cell, number}
use Rattle.plan_formats.specs.Columns.{Column}
use Rattle.plan_formats.specs.TableLines.{makespan}
use Rattle.plan_formats.specs.Tables.{Table}
use Rattle.plan_views.specs.Headings.{duration_column, start_column, end_column}
use Rattle.plan_views.specs.Plans.{Plan, project, shop, count_of, duration_of, placed_columns}
use Rattle.plan_views.specs.Plans.{placed_front_of}
use Rattle.plan_views.specs.Rows.{rows_from}

-- the columns
abbrev pub schedule_columns : Plan → List Column
schedule_columns p = placed_columns p ++ duration_column ∷ start_column ∷ end_column ∷ []

-- row k: the numbers of its activity or step, its duration, its start and its end
unfoldable pub schedule_row : Plan → List ℕ → ℕ → List Cell
schedule_row p starts k =
    placed_front_of p k ++ number (duration_of p k) ∷ number (slice_index starts k)
    ∷ number (slice_index starts k + duration_of p k) ∷ []

-- the table: a row for each activity or step, and the makespan below
abbrev pub schedule_view_of : Plan → List ℕ → ℕ → Table
schedule_view_of p starts ends = record {
  above = [];
  columns = schedule_columns p;
  rows = rows_from (schedule_row p starts) 0 (count_of p);
  below = makespan ends ∷ [];
}

-- its text
abbrev pub schedule_text_of : Plan → List ℕ → ℕ → List ℕ
schedule_text_of (project i) starts ends = schedule_table_text i.project.network starts ends
schedule_text_of (shop s) starts ends = shop_table_text s starts ends
