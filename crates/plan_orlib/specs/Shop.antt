-- The job shop of a file (docs/definitions.md, "Job shop files").
use Rattle.std.specs.Prelude.{◌≡◌, ℕ, ◌≤◌, ◌<◌, List, All, length, map}
use Rattle.std.specs.List.{sum_by}
use Rattle.plan_psplib.specs.Tokens.{greatest, greatest_total}
use Rattle.plan_orlib.specs.declared.steps.Step.{Step}
use Rattle.plan_orlib.specs.declared.steps.Listing as declared

abbrev pub most_jobs : ℕ
most_jobs = 50

abbrev pub most_machines : ℕ
most_machines = 20

-- a shop: the number of machines, and the steps of each job in order
pub record Shop : Type 0 where
  pub machines : ℕ
  pub jobs : List (List Step)

-- the same, as the program keeps it while it reads
abbrev pub shop_of : declared.Listing → Shop
shop_of l = record { machines = l.machines; jobs = map (λ job. job.items) l.jobs.items }

-- the total time of steps
abbrev pub time_of : List Step → ℕ
time_of steps = sum_by (λ step. step.time) steps

-- the total time of all steps of jobs
abbrev pub total_time : List (List Step) → ℕ
total_time jobs = sum_by time_of jobs

-- a step is on one of the machines, for a time within the limit
abbrev pub IsStep : ℕ → Step → Type 0
IsStep machines step = (step.machine < machines) × (step.time ≤ greatest)

-- a job has as many steps as there are machines
abbrev pub IsJob : ℕ → List Step → Type 0
IsJob machines steps = (length steps ≡ machines) × All (IsStep machines) steps

-- 1–50 jobs, 1–20 machines, as many steps in each job as machines, all times within the limits
pub record IsShop (shop : Shop) : Type 0 where
  pub jobs : (1 ≤ length shop.jobs) × (length shop.jobs ≤ most_jobs)
  pub machines : (1 ≤ shop.machines) × (shop.machines ≤ most_machines)
  pub steps : All (IsJob shop.machines) shop.jobs
  pub total : total_time shop.jobs ≤ greatest_total
