use Rattle.std.proofs.Common.{◌≡◌, get_or}
use Rattle.plan_sgs.specs.Problem.{greatest_below}
use Rattle.plan_week.specs.Weeks.{no_absence}
use Rattle.plan_week.proofs.limit.latest_return.Given as goal

-- the latest end so far
abbrev pub invariant-loop-absence : goal.invariant-loop-absence
invariant-loop-absence l = l.latest ≡ greatest_below l.absence-index (λ j. (get_or l.week.absences.items j no_absence).until)
