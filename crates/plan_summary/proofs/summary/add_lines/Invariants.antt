use Rattle.std.proofs.Common.{take}
use Rattle.std.specs.List.{flat_map}
use Rattle.plan_summary.specs.Digests.{Takes}
use Rattle.plan_summary.proofs.summary.add_lines.Given as goal

-- the lines of the rows so far
abbrev pub invariant-loop-row : goal.invariant-loop-row
invariant-loop-row g l = Takes l.fn.hasher l.hasher (flat_map g.T.Line.written (take l.row-index l.fn.rows))
