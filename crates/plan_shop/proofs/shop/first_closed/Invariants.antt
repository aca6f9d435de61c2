-- No machine so far is closed and in use.
use Rattle.std.proofs.Common.{ℕ, ◌<◌}
use Rattle.plan_shop.specs.Docs.{IsClosedInUse}
use Rattle.plan_shop.proofs.shop.first_closed.Given as goal

abbrev pub invariant-loop-machine : goal.invariant-loop-machine
invariant-loop-machine l = (h : ℕ) → h < l.machine → IsClosedInUse l.steps l.usable h → ⊥
