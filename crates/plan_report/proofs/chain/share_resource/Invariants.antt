use Rattle.std.proofs.Common.{ℕ, ◌<◌, get_or}
use Rattle.plan_report.proofs.chain.share_resource.Given as goal

-- no resource so far is needed by both
abbrev pub invariant-loop-k : goal.invariant-loop-k
invariant-loop-k l = (m : ℕ) → m < l.k → 0 < get_or l.before m 0 → 0 < get_or l.after m 0 → ⊥
