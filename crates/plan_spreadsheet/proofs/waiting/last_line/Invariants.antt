use Rattle.std.proofs.Common.{◌≡◌, map, drop}
use Rattle.plan_table.specs.Csv.{row_of}
use Rattle.plan_spreadsheet.specs.Waits.{last_line}
use Rattle.plan_spreadsheet.proofs.waiting.last_line.Given as goal

-- the rows that are left end in the line in which all end
abbrev pub invariant-loop-row : goal.invariant-loop-row
invariant-loop-row l =
    last_line l.last (map row_of (drop l.row-index l.rows)) ≡ last_line 1 (map row_of l.rows)
