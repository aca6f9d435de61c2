use Rattle.std.proofs.Common.{ℕ, ◌<◌, get_or}
use Rattle.plan_sgs.specs.Checks.{IsTooSoon}
use Rattle.plan_sgs.proofs.checks.broken.first_too_soon.Given as goal

-- none of the successors so far starts too soon
abbrev pub invariant-loop-j : goal.invariant-loop-j
invariant-loop-j l = (m : ℕ) → m < l.j-index → IsTooSoon l.network l.starts l.i (get_or l.j-items m 0) → ⊥
