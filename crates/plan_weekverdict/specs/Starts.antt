-- A start for each activity of a week, from the given starts of those that are open.
use Rattle.std.specs.Prelude.{◌≡◌, ℕ, ◌<◌, min, cond, List, length, get_or}
use Rattle.plan_sgs.specs.Problem.{count, total}
use Rattle.plan_week.specs.declared.week.State.{State}
use Rattle.plan_week.specs.declared.week.State.TheVariants.{Open, Begun, Done}
use Rattle.plan_week.specs.declared.week.Week.{Week}
use Rattle.plan_week.specs.Weeks.{project_of, state_of, is_open}

-- the number of open activities before place n
abbrev pub open_before : Week → ℕ → ℕ
open_before week n = total n (λ i. cond (is_open (state_of week i)) 1 0)

-- the start of an activity: the given one if it is open, today if it has begun, its end if it is
-- done
abbrev pub start_by : ℕ → ℕ → State → ℕ
start_by today given (Open earliest fixed) = given
start_by today given (Begun began remaining) = today
start_by today given (Done ended) = min ended today

-- a start for each activity; those that are open have the given starts, one after another
pub record AreAllStarts (week : Week) (given starts : List ℕ) : Type 0 where
  pub whole : length starts ≡ count (project_of week)
  pub each : (i : ℕ) → i < count (project_of week)
      → get_or starts i 0 ≡ start_by week.today (get_or given (open_before week i) 0) (state_of week i)
