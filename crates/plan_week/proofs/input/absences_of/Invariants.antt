use Rattle.std.proofs.Common.{◌≡◌, take, map}
use Rattle.plan_week.specs.Inputs.{from_today}
use Rattle.plan_week.proofs.input.absences_of.Given as goal

-- the absences so far
abbrev pub invariant-loop-absence : goal.invariant-loop-absence
invariant-loop-absence l = l.absences.items ≡ map (from_today l.week.today) (take l.absence-index l.week.absences.items)
