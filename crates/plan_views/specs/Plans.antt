-- A project or a job shop, and the beginnings of the rows of its tables (docs/definitions.md,
-- "Tables and charts"). Row k, from 0 on, is that of activity k + 1 or of flat step k.
use Rattle.std.specs.Prelude.{ℕ, ◌+◌, List, [], ◌∷◌, ◌++◌, slice_index}
use Rattle.plan_net.specs.Network as networks
use Rattle.plan_sgs.specs.Problem.{Problem}
use Rattle.plan_sgs.specs.Instances.{Planned}
use Rattle.plan_sgs.specs.Instances as projects
use Rattle.plan_shop.specs.Shop.{JobShop, count_steps, time_of, machine_of}
use Rattle.plan_shop.specs.Shop as shops
use Rattle.plan_gantt.specs.ShopTable.{job_number, step_number}
use Rattle.plan_gantt.specs.declared.interval.Interval.{Interval}
use Rattle.plan_formats.specs.Cells.{Cell, number}
use Rattle.plan_formats.specs.Columns.{Column}
use Rattle.plan_views.specs.Headings.{activity_column, job_column, step_column, machine_column}
use Rattle.plan_views.specs.declared.plans.PlanRef.{PlanRef}
use Rattle.plan_views.specs.declared.plans.PlanRef.TheVariants as kept

pub data Plan : Type 0 where
  project : Planned → Plan
  shop : JobShop → Plan

-- a plan, as the program refers to it
abbrev pub plan_of : PlanRef → Plan
plan_of (kept.Project i) = project i.now
plan_of (kept.Shop s) = shop s.now

-- its scheduling problem
abbrev pub problem_of : Plan → Problem
problem_of (project i) = projects.problem_of i
problem_of (shop s) = shops.problem_of s

-- the number of its activities or steps
abbrev pub count_of : Plan → ℕ
count_of (project i) = networks.count_of i.project.network
count_of (shop s) = count_steps s

-- the duration in row k
abbrev pub duration_of : Plan → ℕ → ℕ
duration_of (project i) k = networks.duration_of i.project.network (k + 1)
duration_of (shop s) k = time_of s k

-- the interval of row k in a schedule
abbrev pub interval_of : Plan → List ℕ → ℕ → Interval
interval_of p starts k = record { start = slice_index starts k; duration = duration_of p k }

-- the columns that name an activity or a step, and their cells in row k
abbrev pub front_columns : Plan → List Column
front_columns (project i) = activity_column ∷ []
front_columns (shop s) = job_column ∷ step_column ∷ []

abbrev pub front_of : Plan → ℕ → List Cell
front_of (project i) k = number (k + 1) ∷ []
front_of (shop s) k = number (job_number s k) ∷ number (step_number s k) ∷ []

-- the same with the machine of a step
abbrev pub machine_columns : Plan → List Column
machine_columns (project i) = []
machine_columns (shop s) = machine_column ∷ []

abbrev pub placed_columns : Plan → List Column
placed_columns p = front_columns p ++ machine_columns p

abbrev pub machine_cells : Plan → ℕ → List Cell
machine_cells (project i) k = []
machine_cells (shop s) k = number (machine_of s k) ∷ []

abbrev pub placed_front_of : Plan → ℕ → List Cell
placed_front_of p k = front_of p k ++ machine_cells p k
