use Rattle.std.proofs.Common.{◌≡◌, ℕ, ◌<◌, get_or}
use Rattle.plan_week.specs.Weeks.{no_absence}
use Rattle.plan_week.specs.Overloads.{IsFoundOf}
use Rattle.plan_week.proofs.overload.first_at_absences.Given as goal

-- the first overload at the absences so far
abbrev pub invariant-loop-absence : goal.invariant-loop-absence
invariant-loop-absence l =
    IsFoundOf l.week (λ t. (j : ℕ) × (j < l.absence-index) × ((get_or l.week.absences.items j no_absence).from ≡ t)) l.first
