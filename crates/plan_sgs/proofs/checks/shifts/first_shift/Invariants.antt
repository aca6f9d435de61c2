use Rattle.std.proofs.Common.{ℕ, ◌<◌}
use Rattle.plan_sgs.specs.Instances.{problem_of}
use Rattle.plan_sgs.specs.Verdicts.{HasShift}
use Rattle.plan_sgs.proofs.checks.shifts.first_shift.Given as goal

-- no activity so far can start earlier
abbrev pub invariant-loop-k : goal.invariant-loop-k
invariant-loop-k l = (h : ℕ) → h < l.k → HasShift (problem_of l.instance) l.starts h → ⊥
