-- The date table of a network as a value (docs/definitions.md, "Tables and charts").
use Rattle.std.specs.Prelude.{ℕ, ◌==◌, List, [], ◌∷◌, codes}
use Rattle.plan_net.specs.Network.{Net, count_of, duration_of}
use Rattle.plan_cpm.specs.Dates.{DateTable, early_start_of, early_finish_of, late_start_of}
use Rattle.plan_cpm.specs.Dates.{late_finish_of, total_float_of, free_float_of}
use Rattle.plan_formats.specs.Cells.{Cell, number, flag}
use Rattle.plan_formats.specs.Columns.{Column}
use Rattle.plan_formats.specs.TableLines.{duration}
use Rattle.plan_formats.specs.Tables.{Table}
use Rattle.plan_views.specs.Headings.{activity_column, duration_column, mark_column}
use Rattle.plan_views.specs.Headings.{right_column}
use Rattle.plan_views.specs.Rows.{rows_from}

-- the columns: the activity, its duration, its dates, its floats, and its mark
abbrev pub date_columns : List Column
date_columns = activity_column ∷ duration_column
    ∷ right_column (codes "ES") (codes "earliest_start") 8
    ∷ right_column (codes "EF") (codes "earliest_finish") 8
    ∷ right_column (codes "LS") (codes "latest_start") 8
    ∷ right_column (codes "LF") (codes "latest_finish") 8
    ∷ right_column (codes "TF") (codes "total_float") 8
    ∷ right_column (codes "FF") (codes "free_float") 8
    ∷ mark_column ∷ []

-- the row of activity j, which is critical if its total float is 0
unfoldable pub date_row : Net → DateTable → ℕ → List Cell
date_row net dates j =
    number j ∷ number (duration_of net j) ∷ number (early_start_of dates j)
    ∷ number (early_finish_of dates j) ∷ number (late_start_of dates j)
    ∷ number (late_finish_of dates j) ∷ number (total_float_of dates j)
    ∷ number (free_float_of dates j) ∷ flag (total_float_of dates j == 0) ∷ []

-- the table: a row for each activity, and the project duration below
abbrev pub date_view_of : Net → DateTable → Table
date_view_of net dates = record {
  above = [];
  columns = date_columns;
  rows = rows_from (date_row net dates) 1 (count_of net);
  below = duration dates.duration ∷ [];
}
