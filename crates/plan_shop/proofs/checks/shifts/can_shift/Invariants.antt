use Rattle.std.proofs.Common.{ℕ, ◌-◌, ◌≤◌}
use Rattle.plan_sgs.proofs.Shifts.{IsReleasedBy, CanStartAt}
use Rattle.plan_shop.specs.Shop.{problem_of}
use Rattle.plan_shop.proofs.checks.shifts.can_shift.Given as goal

-- the step is released at `at`, and can start at no instant before
abbrev pub invariant-loop-at : goal.invariant-loop-at
invariant-loop-at l = record {
  released : IsReleasedBy (problem_of l.shop) l.starts l.x l.at;
  least : (t : ℕ) → CanStartAt (problem_of l.shop) l.starts l.x t → l.at ≤ t;
}

abbrev pub decreases-loop-at : goal.decreases-loop-at
decreases-loop-at l = l.start - l.at
