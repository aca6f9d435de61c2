use Rattle.std.proofs.Common.{◌≡◌, take}
use Rattle.plan_kernel.proofs.input.durations_of.Given as goal

-- the durations so far
abbrev pub invariant-loop-place : goal.invariant-loop-place
invariant-loop-place l = l.durations.items ≡ take l.place l.instance.project.network.durations
