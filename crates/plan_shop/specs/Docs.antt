-- Shops of files, and closed machines (docs/definitions.md, "Job shops").
use Rattle.std.specs.Prelude.{◌≡◌, ℕ, ◌≤◌, ◌<◌, Bool, true, false, List, length, slice_index_or, All, Contains}
use Rattle.std.specs.List.{flat_map}
use Rattle.plan_psplib.specs.Tokens.{greatest, greatest_total}
use Rattle.plan_orlib.specs.Shop as docs
use Rattle.plan_orlib.specs.declared.steps.Step.{Step}
use Rattle.plan_shop.specs.Shop.{JobShop, IsShop}
use Rattle.plan_shop.specs.declared.fault.ShopFault.{ShopFault}
use Rattle.plan_shop.specs.declared.fault.ShopFault.TheVariants as fault

-- the steps of some jobs, one job after the other
abbrev pub flat_steps : List (List Step) → List Step
flat_steps jobs = flat_map (λ steps. steps) jobs

-- the shop of a file, its steps in flat order
abbrev pub shop_of : docs.Shop → JobShop
shop_of doc =
    record { machines = doc.machines; jobs = length doc.jobs; steps = flat_steps doc.jobs }

-- a shop within the limits of files: at most 50 jobs and 20 machines, and all times within their
-- limits
pub record IsSmallShop (s : JobShop) : Type 0 where
  pub shop : IsShop s
  pub few_jobs : s.jobs ≤ docs.most_jobs
  pub few_machines : s.machines ≤ docs.most_machines
  pub short : All (λ step. step.time ≤ greatest) s.steps
  pub total : docs.time_of s.steps ≤ greatest_total

-- a step of positive time is on a machine
abbrev pub IsInUse : List Step → ℕ → Type 0
IsInUse steps m = (step : Step) × Contains steps step × (step.machine ≡ m) × (0 < step.time)

-- a machine that is in use although it is closed
abbrev pub IsClosedInUse : List Step → List Bool → ℕ → Type 0
IsClosedInUse steps usable m =
    (m < length usable) × (slice_index_or usable m true ≡ false) × IsInUse steps m

-- the least such machine
abbrev pub IsFirstClosed : List Step → List Bool → ℕ → Type 0
IsFirstClosed steps usable m =
    IsClosedInUse steps usable m × ((h : ℕ) → h < m → IsClosedInUse steps usable h → ⊥)

-- no machine is in use although it is closed
abbrev pub NoneIsClosed : List Step → List Bool → Type 0
NoneIsClosed steps usable = (m : ℕ) → IsClosedInUse steps usable m → ⊥

-- the errors of the steps of a shop: the least closed machine in use, or memory that runs out
abbrev pub RefusesSteps : List Step → List Bool → ShopFault → Type 0
RefusesSteps steps usable fault.NoMemory = Unit {0}
RefusesSteps steps usable (fault.MachineClosed m) = IsFirstClosed steps usable m
RefusesSteps steps usable fault.UnknownRule = ⊥
