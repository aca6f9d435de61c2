use Rattle.std.proofs.Common.{ℕ, ◌<◌}
use Rattle.plan_shop.specs.Checks.{IsInTheWay}
use Rattle.plan_shop.proofs.checks.shifts.end_in_the_way.Given as goal

-- none so far is in the way
abbrev pub invariant-loop-y : goal.invariant-loop-y
invariant-loop-y l = (h : ℕ) → h < l.y → IsInTheWay l.shop l.starts l.fn.x l.at h → ⊥
