-- The intervals in a chart of activities (docs/definitions.md, "Texts").
use Rattle.std.specs.Prelude.{ℕ, ◌-◌, List, [], ◌∷◌, slice_index}
use Rattle.plan_net.specs.Network.{Net, duration_of}
use Rattle.plan_gantt.specs.declared.interval.Interval.{Interval}

-- the interval of activity j
abbrev pub activity_interval : Net → List ℕ → ℕ → Interval
activity_interval net starts j = record { start = slice_index starts (j - 1); duration = duration_of net j }

-- the intervals in the line of activity j
abbrev pub activity_intervals : Net → List ℕ → ℕ → List Interval
activity_intervals net starts j = activity_interval net starts j ∷ []
