use Rattle.std.proofs.Common.{◌≡◌, map}
use Rattle.std.specs.List.{range_with_len}
use Rattle.plan_sheet.specs.Uses.{activity_use}
use Rattle.plan_sheet.proofs.uses.uses_of.Given as goal

-- the uses of the activities so far
abbrev pub invariant-loop-k : goal.invariant-loop-k
invariant-loop-k l = l.uses.items ≡ map (activity_use l.instance l.starts l.r) (range_with_len 1 l.k)
