use Rattle.std.proofs.Common.{◌≡◌, map, take}
use Rattle.serde_json.specs.View.{view}
use Rattle.plan_formats.specs.Columns.{column_of}
use Rattle.plan_formats.specs.Tables.{rows_of}
use Rattle.plan_formats.specs.JsonData.{row_data}
use Rattle.plan_formats.proofs.json_value.rows_value.Given as goal

-- the objects of the rows so far
abbrev pub invariant-loop-row : goal.invariant-loop-row
invariant-loop-row l =
    map view l.list.items ≡ map (row_data (map column_of l.columns)) (rows_of (take l.row-index l.rows))
