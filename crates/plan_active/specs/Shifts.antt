-- Schedules that start no later than a list of starts (docs/definitions.md, "Schedules").
use Rattle.std.specs.Prelude.{◌≡◌, ℕ, ◌≤◌, List, get_or, All}
use Rattle.plan_profile.specs.Usage.{IsInTime}
use Rattle.plan_sgs.specs.Problem.{Problem, IsActive, makespan}
use Rattle.plan_sgs.specs.declared.schedule.Schedule.{Schedule}

-- no activity starts later than in a list of starts
abbrev pub StartsNoLater : List ℕ → List ℕ → Type 0
StartsNoLater starts other = (i : ℕ) → get_or other i 0 ≤ get_or starts i 0

-- an active schedule with its makespan, no start of which is after 10,000,000
pub record IsActiveInTime (p : Problem) (schedule : Schedule) : Type 0 where
  pub active : IsActive p schedule.starts.items
  pub makespan_is : schedule.makespan ≡ makespan p schedule.starts.items
  pub within : All IsInTime schedule.starts.items
