use Rattle.std.proofs.Common.{ℕ, ◌≡◌, ◌-◌, ◌<◌, get_or}
use Rattle.plan_report.proofs.chain.first_at_zero.Given as goal

-- none of the activities so far starts at 0
abbrev pub invariant-loop-m : goal.invariant-loop-m
invariant-loop-m l = (q : ℕ) → q < l.m → get_or l.starts (get_or l.reached q 0 - 1) 0 ≡ 0 → ⊥
