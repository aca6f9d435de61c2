use Rattle.std.proofs.Common.{◌≢◌, ℕ, drop, Contains}
use Rattle.plan_kernel.specs.Literals.{at}
use Rattle.plan_kernel.proofs.conflict.clear.Given as goal

-- what isn't 0 is among the halves that are left
abbrev pub invariant-loop-half : goal.invariant-loop-half
invariant-loop-half l = (half : ℕ) → at l.values.items half ≢ 0 → Contains (drop l.half-index l.half-items) half
