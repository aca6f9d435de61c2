use Rattle.std.proofs.Common.{◌≡◌, ◌≤◌, ◌+◌}
use Rattle.plan_sgs.specs.Problem.{total}
use Rattle.plan_kernel.specs.Inputs.{problem_of, amount_at}
use Rattle.plan_kernel.specs.Plans.{absent}
use Rattle.plan_kernel.proofs.feasible.fits.Given as goal

-- what is absent and what the activities so far need, which there is
abbrev pub invariant-loop-place : goal.invariant-loop-place
invariant-loop-place l = record {
  sum : l.used ≡ absent l.input l.instant l.resource + total l.place (amount_at (problem_of l.input) l.starts l.instant l.resource);
  most : l.used ≤ l.capacity;
}
