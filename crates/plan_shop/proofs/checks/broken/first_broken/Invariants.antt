use Rattle.std.proofs.Common.{ℕ, ◌<◌}
use Rattle.plan_shop.specs.Checks.{IsBrokenAfter}
use Rattle.plan_shop.proofs.checks.broken.first_broken.Given as goal

-- none of the steps so far is followed too soon
abbrev pub invariant-loop-x : goal.invariant-loop-x
invariant-loop-x l = (h : ℕ) → h < l.x → IsBrokenAfter l.shop l.starts h → ⊥
