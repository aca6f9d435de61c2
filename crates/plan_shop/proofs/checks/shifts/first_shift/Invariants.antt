use Rattle.std.proofs.Common.{ℕ, ◌<◌}
use Rattle.plan_sgs.specs.Verdicts.{HasShift}
use Rattle.plan_shop.specs.Shop.{problem_of}
use Rattle.plan_shop.proofs.checks.shifts.first_shift.Given as goal

-- no step so far can start earlier
abbrev pub invariant-loop-x : goal.invariant-loop-x
invariant-loop-x l = (h : ℕ) → h < l.x → HasShift (problem_of l.shop) l.starts h → ⊥
