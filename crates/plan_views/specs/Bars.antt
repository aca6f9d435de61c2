-- The rows of a Gantt chart (docs/definitions.md, "Tables and charts").
use Rattle.std.specs.Prelude.{ℕ, ◌-◌, List, Option, Some, None, map}
use Rattle.plan_gantt.specs.declared.interval.Interval.{Interval}
use Rattle.plan_views.specs.declared.bars.Bar as declared_bar
use Rattle.plan_views.specs.declared.bars.ChartRow as declared_row
use Rattle.plan_views.specs.declared.bars.StepNumber as declared_step

-- a bar: its first instant, the instant after its last one, and for a step of a job shop the job
-- and the step's number in it
pub record Bar : Type 0 where
  pub start : ℕ
  pub end : ℕ
  pub step : Option (ℕ × ℕ)

-- a row: the number of its activity or machine, and its bars
pub record ChartRow : Type 0 where
  pub number : ℕ
  pub bars : List Bar

-- the numbers of a step, as the program keeps them
abbrev pub step_of : Option declared_step.StepNumber → Option (ℕ × ℕ)
step_of None = None
step_of (Some x) = Some (x.job, x.step)

-- a bar, as the program keeps it
abbrev pub bar_of : declared_bar.Bar → Bar
bar_of b = record { start = b.start; end = b.end; step = step_of b.step }

-- a row, as the program keeps it
abbrev pub row_of : declared_row.ChartRow → ChartRow
row_of r = record { number = r.number; bars = map bar_of r.bars.items }

-- the interval of a bar
abbrev pub interval_of : Bar → Interval
interval_of b = record { start = b.start; duration = b.end - b.start }

-- the intervals of bars
abbrev pub intervals_of : List Bar → List Interval
intervals_of bars = map interval_of bars
