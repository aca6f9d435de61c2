-- The slack of activities in a schedule (docs/definitions.md, "Reports").
use Rattle.std.specs.Prelude.{◌≡◌, ◌≢◌, ℕ, ◌+◌, ◌≤◌, ◌<◌, List, length, get_or, set, All}
use Rattle.plan_net.specs.Network.{IsGreatest}
use Rattle.plan_profile.specs.Usage.{Fits}
use Rattle.plan_sgs.specs.Problem.{Problem, count, duration, all_placed, makespan}
use Rattle.plan_sgs.specs.Problem.{KeepsCapacities, IsFeasible}
use Rattle.plan_sgs.specs.Verdicts.{IsFirstVerdict}
use Rattle.plan_report.specs.declared.slack.SlackFault.{SlackFault}
use Rattle.plan_report.specs.declared.slack.SlackFault.TheVariants.{NoMemory, NotFeasible, Late}

-- activity j can start at t, which isn't earlier than its start, while all others keep their
-- starts: the schedule stays feasible and gets no longer
pub record CanStartAt (p : Problem) (s : List ℕ) (j t : ℕ) : Type 0 where
  pub since : get_or s j 0 ≤ t
  pub feasible : IsFeasible p (set s j t)
  pub no_longer : makespan p (set s j t) ≤ makespan p s

-- activity j can wait y time units: each delay from 0 to y is possible
abbrev pub CanWait : Problem → List ℕ → ℕ → ℕ → Type 0
CanWait p s j y = (z : ℕ) → z ≤ y → CanStartAt p s j (get_or s j 0 + z)

-- x is the longest time that activity j can wait
abbrev pub IsSlack : Problem → List ℕ → ℕ → ℕ → Type 0
IsSlack p s j x = IsGreatest (CanWait p s j) x

-- the slack of each activity
pub record AreSlacks (p : Problem) (s slacks : List ℕ) : Type 0 where
  pub whole : length slacks ≡ count p
  pub each : (j : ℕ) → j < count p → IsSlack p s j (get_or slacks j 0)

-- the error of a list of starts that has no slack: the list isn't feasible, or else it ends too
-- late
abbrev pub RefusesSlack : Problem → List ℕ → SlackFault → Type 0
RefusesSlack p s NoMemory = Unit {0}
RefusesSlack p s (NotFeasible verdict) = IsFirstVerdict p s verdict × (IsFeasible p s → ⊥)
RefusesSlack p s Late = IsFeasible p s × (10000000 < makespan p s)

-- the successors of activity j let it end at an instant. No public clause cites this word or those
-- below.
abbrev pub LetEnd : Problem → List ℕ → ℕ → ℕ → Type 0
LetEnd p s j end = All (λ a. a.from ≡ j → a.to ≢ j → end + a.lag ≤ get_or s a.to 0) p.links

-- the latest end of activity j that its successors and the makespan allow
pub record IsDue (p : Problem) (s : List ℕ) (j due : ℕ) : Type 0 where
  pub ended : get_or s j 0 + duration p j ≤ due
  pub no_longer : due ≤ makespan p s
  pub arcs : LetEnd p s j due
  pub latest : (end : ℕ) → end ≤ makespan p s → LetEnd p s j end → end ≤ due

-- the capacities are kept if activity j starts at t
abbrev pub HasRoomAt : Problem → List ℕ → ℕ → ℕ → Type 0
HasRoomAt p s j t = KeepsCapacities p (all_placed (set s j t))

-- needs fit at each of the x instants from `from` on, and x is at most `limit`
abbrev pub FitsFor : List ℕ → (ℕ → ℕ → ℕ) → ℕ → ℕ → List ℕ → ℕ → Type 0
FitsFor caps used from limit needs x = (x ≤ limit) × Fits caps used from x needs
