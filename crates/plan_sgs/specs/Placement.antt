-- Placement of activities one after another: partial schedules, the profile that holds them, and
-- the instant by which all activities have ended. Public clauses cite only `AllEndBy` and
-- `latest_end`.
use Rattle.std.specs.Prelude.{◌≡◌, ℕ, ◌+◌, ◌≤◌, ◌<◌, true, List, length, get_or, All, Option, Some, None}
use Rattle.plan_profile.specs.InUse.{in_use, capacities}
use Rattle.plan_profile.specs.declared.profile.Profile.{Profile}
use Rattle.plan_sgs.specs.Problem.{Problem, count, duration, usage}
use Rattle.plan_sgs.specs.Rules.{places, is_activity_list}
use Rattle.plan_sgs.specs.Instances.{Planned, problem_of}

-- the instant by which the activities of every serial schedule have ended: their durations, at
-- most 1,000,000 together, and for each of at most 502 activities a lag of at most 10,000
abbrev pub latest_end : ℕ
latest_end = 6020000

-- the instant by which the activities of every list of starts have ended: starts are at most
-- 10,000,000 and durations at most 10,000
abbrev pub greatest_end : ℕ
greatest_end = 10010000

-- all placed activities end by an instant
abbrev pub EndsBy : Problem → List (Option ℕ) → ℕ → Type 0
EndsBy p placed last = (i s : ℕ) → get_or placed i None ≡ Some s → s + duration p i ≤ last

-- all activities of a list of starts end by an instant
abbrev pub AllEndBy : Problem → List ℕ → ℕ → Type 0
AllEndBy p starts last = (i : ℕ) → i < count p → get_or starts i 0 + duration p i ≤ last

-- an entry for each activity, and all placed activities end by an instant
pub record IsPartialSchedule (i : Planned) (placed : List (Option ℕ)) (last : ℕ) : Type 0 where
  pub size : length placed ≡ count (problem_of i)
  pub ends : EndsBy (problem_of i) placed last

-- the profile has the capacities of the problem, and holds the usage of the placed activities
pub record Holds (profile : Profile) (p : Problem) (placed : List (Option ℕ)) : Type 0 where
  pub caps : capacities profile ≡ p.capacities
  pub used : (t k : ℕ) → k < length p.capacities → in_use profile t k ≡ usage p placed t k

-- a list of all activities by their numbers from 1 on, each after its predecessors
abbrev pub IsTurnList : Problem → List ℕ → Type 0
IsTurnList p list = All (λ j. 1 ≤ j) list × (is_activity_list p (places list) ≡ true)
