use Rattle.std.proofs.Common.{◌≡◌, map, take}
use Rattle.std.specs.String.{string_bytes}
use Rattle.plan_table.specs.ShopTable.{idle, step_of}
use Rattle.plan_table.proofs.jobshop.idle.Given as goal

-- the steps on the machines so far
abbrev pub invariant-loop-k : goal.invariant-loop-k
invariant-loop-k l = map step_of l.idle.items ≡ idle (map string_bytes (take l.k l.machines)) (map step_of l.job)
