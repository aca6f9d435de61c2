use Rattle.std.proofs.Common.{◌≡◌, map, drop}
use Rattle.plan_report.specs.IdRows.{rows_with}
use Rattle.plan_report.specs.Sheet.{row_of}
use Rattle.plan_report.proofs.id_rows.from_first.Given as goal

-- the rows so far don't have the id
abbrev pub invariant-loop-i : goal.invariant-loop-i
invariant-loop-i l = rows_with l.form l.id (map row_of (drop l.i l.rows)) ≡ rows_with l.form l.id (map row_of l.rows)
