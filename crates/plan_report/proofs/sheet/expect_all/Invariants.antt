use Rattle.std.proofs.Common.{◌≡◌, drop}
use Rattle.plan_report.specs.Sheet.{cells_of, expect_all}
use Rattle.plan_report.proofs.sheet.expect_all.Given as goal

-- the numbers that are left, in the cells that are left, decide
abbrev pub invariant-loop-n : goal.invariant-loop-n
invariant-loop-n l = expect_all l.line (drop l.n-index l.wanted) (cells_of l.rest) ≡ expect_all l.line l.wanted (cells_of l.cells)
