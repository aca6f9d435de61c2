use Rattle.std.proofs.Common.{ℕ, ◌+◌, ◌<◌}
use Rattle.plan_net.specs.Network.{IsArc}
use Rattle.plan_sgs.specs.Checks.{IsTooSoon}
use Rattle.plan_sgs.proofs.checks.broken.first_broken.Given as goal

-- no arc from an activity so far is broken
abbrev pub invariant-loop-k : goal.invariant-loop-k
invariant-loop-k l = (h : ℕ) → h < l.k → (j : ℕ) → IsArc l.instance.project.network (h + 1) j → IsTooSoon l.instance.project.network l.starts (h + 1) j → ⊥
