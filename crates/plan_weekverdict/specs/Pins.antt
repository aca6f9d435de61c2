-- A week in which each activity has its start as an appointment. No public clause cites it.
use Rattle.std.specs.Prelude.{◌≡◌, ℕ, ◌<◌, List, length, get_or, map, Option, Some, None}
use Rattle.plan_sgs.specs.Problem.{count}
use Rattle.plan_week.specs.declared.week.State.{State}
use Rattle.plan_week.specs.declared.week.State.TheVariants.{Open, Begun, Done}
use Rattle.plan_week.specs.declared.week.Week.{Week}
use Rattle.plan_week.specs.Weeks.{project_of, state_of}

-- a state; an open activity has the start as its appointment
abbrev pub pin : ℕ → State → State
pin start (Open earliest fixed) = Open earliest (Some start)
pin start (Begun began remaining) = Begun began remaining
pin start (Done ended) = Done ended

-- the states of all activities with their starts as appointments
pub record ArePinned (week : Week) (starts : List ℕ) (states : List State) : Type 0 where
  pub whole : length states ≡ length week.durations.items
  pub each : (i : ℕ) → i < length week.durations.items
      → get_or states i (Open 0 None) ≡ pin (get_or starts i 0) (state_of week i)

-- a week with the numbers of another one, and its starts as appointments
pub record IsPinned (week : Week) (starts : List ℕ) (pinned : Week) : Type 0 where
  pub durations : pinned.durations.items ≡ week.durations.items
  pub needs : map (λ row. row.items) pinned.needs.items ≡ map (λ row. row.items) week.needs.items
  pub capacities : pinned.capacities.items ≡ week.capacities.items
  pub states : ArePinned week starts pinned.states.items
  pub absences : pinned.absences.items ≡ week.absences.items
  pub now : pinned.today ≡ week.today
