-- The limits of a network as numbers; proofs compare the program's constants with them
-- (docs/definitions.md, "Networks").
use Rattle.std.specs.Prelude.{ℕ, ◌≡◌, ◌-◌, ◌≤◌, ◌<◌, length, take, slice_index, slice_get, Some, Contains, All, sum}
use Rattle.plan_net.specs.Network.{Net, count_of, IsActivity}
use Rattle.plan_net.specs.Path.{IsAcyclic}

-- the fewest activities of a network
abbrev pub fewest_activities : ℕ
fewest_activities = 2

-- the most activities of a network
abbrev pub most_activities : ℕ
most_activities = 502

-- the greatest duration of one activity
abbrev pub longest_duration : ℕ
longest_duration = 10000

-- the greatest sum of the durations of one network
abbrev pub longest_sum : ℕ
longest_sum = 1000000

-- the greatest lag of one arc
abbrev pub longest_lag : ℕ
longest_lag = 10000

-- the number of activities is within the limits
abbrev pub HasGoodSize : Net → Type 0
HasGoodSize net = (fewest_activities ≤ count_of net) × (count_of net ≤ most_activities)

-- the duration of j and the sum of the durations of 1 to j are within the limits
abbrev pub IsGoodDuration : Net → ℕ → Type 0
IsGoodDuration net j =
    (slice_index net.durations (j - 1) ≤ longest_duration) × (sum (take j net.durations) ≤ longest_sum)

abbrev pub HasGoodDurations : Net → Type 0
HasGoodDurations net = (j : ℕ) → IsActivity net j → IsGoodDuration net j

-- both ends are activities
abbrev pub IsGoodArc : Net → ℕ × ℕ → Type 0
IsGoodArc net arc = IsActivity net arc.0 × IsActivity net arc.1

abbrev pub HasGoodArcs : Net → Type 0
HasGoodArcs net = All (IsGoodArc net) net.arcs

-- the arc at k equals no earlier one
abbrev pub IsNewArc : Net → ℕ → Type 0
IsNewArc net k = (arc : ℕ × ℕ) → slice_get net.arcs k ≡ Some arc → Contains (take k net.arcs) arc → ⊥

abbrev pub HasNewArcs : Net → Type 0
HasNewArcs net = (k : ℕ) → k < length net.arcs → IsNewArc net k

-- each arc has a lag within the limit
abbrev pub HasGoodLags : Net → Type 0
HasGoodLags net = (length net.lags ≡ length net.arcs) × All (λ w. w ≤ longest_lag) net.lags

-- within the limits
pub record IsWithinLimits (net : Net) : Type 0 where
  pub size : HasGoodSize net
  pub durations : HasGoodDurations net
  pub arcs : HasGoodArcs net
  pub new_arcs : HasNewArcs net
  pub lags : HasGoodLags net

-- within the limits, and without a cycle
pub record IsSound (net : Net) : Type 0 where
  pub limits : IsWithinLimits net
  pub acyclic : IsAcyclic net
