use Rattle.std.proofs.Common.{◌≡◌, map}
use Rattle.plan_sgs.specs.Problem.{greatest_below}
use Rattle.plan_report.specs.IdRows.{end_at}
use Rattle.plan_report.specs.Sheet.{id_entry_of}
use Rattle.plan_report.proofs.id_rows.greatest_end.Given as goal

-- the greatest end so far
abbrev pub invariant-loop-i : goal.invariant-loop-i
invariant-loop-i l = l.latest ≡ greatest_below l.i (end_at (map id_entry_of l.entries) l.starts)
