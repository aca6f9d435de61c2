use Rattle.std.proofs.Common.{◌≡◌, map, drop}
use Rattle.plan_report.specs.IdRows.{all_known}
use Rattle.plan_report.specs.Sheet.{id_entry_of, row_of}
use Rattle.plan_report.proofs.id_rows.check_all_known.Given as goal

-- the rows that are left decide
abbrev pub invariant-loop-row : goal.invariant-loop-row
invariant-loop-row l = all_known l.form (map id_entry_of l.entries) (map row_of (drop l.row-index l.rows)) ≡ all_known l.form (map id_entry_of l.entries) (map row_of l.rows)
