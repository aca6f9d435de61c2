-- A list of orders: each order is a job of a shop, and each of its rows is a step.
use Rattle.std.specs.Prelude.{ℕ, ◌-◌, ◌==◌, ◌≤◌, ◌<◌, Bool, if◌then◌else◌, List, [], ◌∷◌, ◌++◌, count_by, filter, length, map, take}
use Rattle.std.specs.List.{AllByRecursion, list_any, sum_by}
use Rattle.plan_net.specs.Limits.{longest_sum}
use Rattle.plan_psplib.specs.Tokens.{greatest}
use Rattle.plan_orlib.specs.declared.steps.Step.{Step}
use Rattle.plan_orlib.specs.Shop.{Shop, most_jobs, most_machines}
use Rattle.plan_table.specs.declared.shop_table.ShopStep.{ShopStep}
use Rattle.plan_table.specs.Limits.{IsName}
use Rattle.plan_table.specs.Numbered.{numbered}

-- the names of orders and of machines, and all steps; orders and machines are numbered from 0
pub record ShopTable : Type 0 where
  pub orders : List (List ℕ)
  pub machines : List (List ℕ)
  pub steps : List ShopStep

-- a step of an order
abbrev pub is_of : ℕ → ShopStep → Bool
is_of k s = s.order == k

abbrev pub step_of : ShopStep → Step
step_of s = record { machine = s.machine; time = s.time }

-- the steps of order k
abbrev pub steps_of : ℕ → List ShopStep → List Step
steps_of k steps = map step_of (filter (is_of k) steps)

-- a step is on machine k
abbrev pub is_on : ℕ → Step → Bool
is_on k s = s.machine == k

-- a step that takes no time
abbrev pub idle_step : ℕ → Step
idle_step k = record { machine = k; time = 0 }

-- a step that takes no time on machine k, if a job doesn't use it
abbrev pub idle_on : List Step → ℕ → List Step
idle_on steps k = if list_any (is_on k) steps then [] else idle_step k ∷ []

-- steps that take no time, one on each machine that a job doesn't use
abbrev pub idle : List (List ℕ) → List Step → List Step
idle machines steps = numbered (λ k _. idle_on steps k) 0 machines

-- the steps of a job, as many as there are machines
abbrev pub padded : List (List ℕ) → List Step → List Step
padded machines steps = steps ++ take (length machines - length steps) (idle machines steps)

-- the job of order k
abbrev pub shop_job : ShopTable → ℕ → List Step
shop_job t k = padded t.machines (steps_of k t.steps)

-- the shop of a table
abbrev pub shop_of : ShopTable → Shop
shop_of t = record { machines = length t.machines; jobs = numbered (λ k _. shop_job t k ∷ []) 0 t.orders }

-- a step of one of n orders on one of m machines
abbrev pub IsShopStep : ℕ → ℕ → ShopStep → Type 0
IsShopStep n m s = (s.order < n) × (s.machine < m) × (s.time ≤ greatest)

-- the name of an order or of a machine isn't empty
pub record IsShopName (text : List ℕ) : Type 0 where
  pub name : IsName text
  pub some : 0 < length text

-- a table within the limits, in which no order has more steps than there are machines
pub record IsShopTable (t : ShopTable) : Type 0 where
  pub orders : (1 ≤ length t.orders) × (length t.orders ≤ most_jobs)
  pub machines : (1 ≤ length t.machines) × (length t.machines ≤ most_machines)
  pub order_names : AllByRecursion IsShopName t.orders
  pub machine_names : AllByRecursion IsShopName t.machines
  pub steps : AllByRecursion (IsShopStep (length t.orders) (length t.machines)) t.steps
  pub fit : (k : ℕ) → k < length t.orders → count_by (is_of k) t.steps ≤ length t.machines
  pub total : sum_by (λ s. s.time) t.steps ≤ longest_sum
