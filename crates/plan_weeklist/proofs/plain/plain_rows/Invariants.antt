use Rattle.std.proofs.Common.{◌≡◌, map, take}
use Rattle.plan_table.specs.Csv.{row_of}
use Rattle.plan_weeklist.specs.PlainRows.{plain_row}
use Rattle.plan_weeklist.proofs.plain.plain_rows.Given as goal

-- the rows so far
abbrev pub invariant-loop-row : goal.invariant-loop-row
invariant-loop-row l = map row_of l.plain.items ≡ map (plain_row l.columns) (map row_of (take l.row-index l.rows))
