use Rattle.std.proofs.Common.{◌≡◌, map, drop}
use Rattle.plan_report.specs.IdRows.{last_line}
use Rattle.plan_report.specs.Sheet.{row_of}
use Rattle.plan_report.proofs.id_rows.last_line.Given as goal

-- the rows that are left decide
abbrev pub invariant-loop-row : goal.invariant-loop-row
invariant-loop-row l = last_line l.last (map row_of (drop l.row-index l.rows)) ≡ last_line l.line (map row_of l.rows)
