use Rattle.std.proofs.Common.{◌≡◌, map, drop}
use Rattle.serde_json.specs.Data.{no_members}
use Rattle.serde_json.specs.View.{members_view}
use Rattle.plan_formats.specs.Columns.{column_of}
use Rattle.plan_formats.specs.Tables.{cells_of}
use Rattle.plan_formats.specs.JsonData.{members_with_row}
use Rattle.plan_formats.proofs.json_value.row_value.Given as goal

-- the members so far, with those of the columns that are left, are all members
abbrev pub invariant-loop-cell : goal.invariant-loop-cell
invariant-loop-cell l =
    members_with_row (members_view l.object.entries) (map column_of l.left) (cells_of (drop l.cell-index l.cells))
    ≡ members_with_row no_members (map column_of l.columns) (cells_of l.cells)
