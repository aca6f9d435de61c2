-- Active schedules with lower bounds of all makespans (docs/definitions.md, "Solutions").
use Rattle.std.specs.Prelude.{◌≡◌, ℕ, ◌≤◌, ◌<◌, List, All}
use Rattle.plan_sgs.specs.Problem.{Problem, IsActive, IsShortest, makespan}
use Rattle.plan_sgs.specs.Instances.{Planned}
use Rattle.plan_sgs.specs.Instances as projects
use Rattle.plan_sgs.specs.Placement.{AllEndBy, latest_end}
use Rattle.plan_sgs.specs.declared.schedule.Schedule.{Schedule}
use Rattle.plan_shop.specs.Shop.{JobShop, problem_of}
pub use Rattle.plan_active.specs.Bounds.{IsLowerBound}
use Rattle.plan_active.specs.Shifts.{IsActiveInTime}
use Rattle.plan_solve.specs.declared.fault.SolveFault.{SolveFault}
use Rattle.plan_solve.specs.declared.fault.SolveFault.TheVariants.{NoMemory, BadConflicts}
use Rattle.plan_solve.specs.declared.solutions.Solved.{Solved}

-- an active schedule with its makespan, whose ends can all be shown
pub record IsActiveSchedule (p : Problem) (schedule : Schedule) : Type 0 where
  pub active : IsActive p schedule.starts.items
  pub makespan_is : schedule.makespan ≡ makespan p schedule.starts.items
  pub ends : AllEndBy p schedule.starts.items latest_end

-- an active schedule of a shop with its makespan, no start of which is after 10,000,000
abbrev pub IsActiveShopSchedule : JobShop → Schedule → Type 0
IsActiveShopSchedule s schedule = IsActiveInTime (problem_of s) schedule

-- how many conflicts may be allowed
abbrev pub IsConflictLimit : ℕ → Type 0
IsConflictLimit conflicts = (0 < conflicts) × (conflicts ≤ 1000000000)

-- a number of conflicts is refused if it isn't allowed, and for nothing else but want of memory
abbrev pub RefusesSolving : ℕ → SolveFault → Type 0
RefusesSolving conflicts NoMemory = Unit {0}
RefusesSolving conflicts BadConflicts = IsConflictLimit conflicts → ⊥

-- a schedule with a property, and a lower bound of the makespans of a problem
pub record IsKnown (p : Problem) (is_schedule : Schedule → Type 0) (known : Solved) : Type 0 where
  pub schedule : is_schedule known.schedule
  pub lower : IsLowerBound p known.lower

-- the schedule is no longer than a known one, and the lower bound is no lower
pub record IsNoWorse (known solved : Solved) : Type 0 where
  pub no_longer : solved.schedule.makespan ≤ known.schedule.makespan
  pub no_lower : known.lower ≤ solved.lower

-- An active schedule of a problem with its makespan, all starts of which are in time, and a lower
-- bound of the makespans of all feasible ones. If they meet, the schedule is a shortest one. There
-- were no more conflicts than are allowed.
pub record IsSolved (p : Problem) (are_in_time : List ℕ → Type 0) (most : ℕ) (solved : Solved)
    : Type 0 where
  pub active : IsActive p solved.schedule.starts.items
  pub makespan : solved.schedule.makespan ≡ makespan p solved.schedule.starts.items
  pub lower : IsLowerBound p solved.lower
  pub below : solved.lower ≤ solved.schedule.makespan
  pub optimal : solved.lower ≡ solved.schedule.makespan → IsShortest p solved.schedule.starts.items
  pub in_time : are_in_time solved.schedule.starts.items
  pub conflicts : solved.conflicts ≤ most
  pub allowed : IsConflictLimit most

-- a project is solved, and all ends can be shown: none is after 6,020,000
abbrev pub IsSolvedProject : Planned → ℕ → Solved → Type 0
IsSolvedProject i =
    IsSolved (projects.problem_of i) (λ starts. AllEndBy (projects.problem_of i) starts latest_end)

-- a job shop is solved, and all starts can be shown: none is after 10,000,000
abbrev pub IsSolvedShop : JobShop → ℕ → Solved → Type 0
IsSolvedShop s = IsSolved (problem_of s) (All (λ t. t ≤ 10000000))
