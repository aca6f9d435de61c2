use Rattle.std.proofs.Common.{◌≡◌, take}
use Rattle.plan_kernel.proofs.input.narrow.Given as goal

-- the numbers so far
abbrev pub invariant-loop-number : goal.invariant-loop-number
invariant-loop-number l = l.narrowed.items ≡ take l.number-index l.list
