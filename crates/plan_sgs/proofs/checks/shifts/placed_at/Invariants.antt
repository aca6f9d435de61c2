-- The starts so far.
use Rattle.std.proofs.Common.{◌≡◌, take}
use Rattle.plan_sgs.specs.Problem.{all_placed}
use Rattle.plan_sgs.proofs.checks.shifts.placed_at.Given as goal

abbrev pub invariant-loop-start : goal.invariant-loop-start
invariant-loop-start l = l.placed.items ≡ all_placed (take l.start-index l.starts)
