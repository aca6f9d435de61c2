use Rattle.std.proofs.Common.{◌≡◌, map, drop}
use Rattle.plan_table.specs.Csv.{row_of}
use Rattle.plan_weeklist.proofs.text.same_rows.Given as goal

-- all rows are the same if those that are left are
abbrev pub invariant-loop-row : goal.invariant-loop-row
invariant-loop-row l = map row_of (drop l.row-index l.a) ≡ map row_of l.rest → map row_of l.a ≡ map row_of l.b
