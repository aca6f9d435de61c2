use Rattle.std.proofs.Common.{◌≡◌, ℕ, ◌<◌, Some}
use Rattle.plan_week.specs.Weeks.{state_of}
use Rattle.plan_week.specs.Overloads.{IsFoundOf, settled_start}
use Rattle.plan_week.proofs.overload.first_at_starts.Given as goal

-- the first overload at the starts so far
abbrev pub invariant-loop-place : goal.invariant-loop-place
invariant-loop-place l =
    IsFoundOf l.week (λ t. (i : ℕ) × (i < l.place) × (settled_start l.week.today (state_of l.week i) ≡ Some t)) l.first
