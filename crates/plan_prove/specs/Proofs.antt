-- Proofs: schedules with lower bounds of all makespans (docs/definitions.md, "Proofs of optima").
use Rattle.std.specs.Prelude.{◌≡◌, ℕ, ◌≤◌, ◌<◌, List}
use Rattle.plan_sgs.specs.Problem.{IsFeasible, makespan}
use Rattle.plan_sgs.specs.declared.schedule.Schedule.{Schedule}
use Rattle.plan_shop.specs.Shop.{JobShop, problem_of}
use Rattle.plan_active.specs.Shifts.{IsActiveInTime}
use Rattle.plan_prove.specs.declared.fault.ProveFault.{ProveFault}
use Rattle.plan_prove.specs.declared.fault.ProveFault.TheVariants.{NoMemory, BadNodes}
use Rattle.plan_prove.specs.declared.proof.Proof.{Proof}
use Rattle.plan_prove.specs.declared.search.Search.{Search}
use Rattle.plan_prove.specs.Graphs.{IsGraphOf}

-- no feasible schedule of a shop has a makespan below a number
abbrev pub IsLowerBound : JobShop → ℕ → Type 0
IsLowerBound s lower =
    (starts : List ℕ) → IsFeasible (problem_of s) starts → lower ≤ makespan (problem_of s) starts

-- an active schedule of a shop with its makespan, no start of which is after 10,000,000
abbrev pub IsActiveSchedule : JobShop → Schedule → Type 0
IsActiveSchedule s schedule = IsActiveInTime (problem_of s) schedule

-- an active schedule and a lower bound
pub record IsProofOf (s : JobShop) (proof : Proof) : Type 0 where
  pub schedule : IsActiveSchedule s proof.schedule
  pub lower : IsLowerBound s proof.lower

-- a proof is no worse than an old one
pub record IsNoWorse (old new : Proof) : Type 0 where
  pub no_longer : new.schedule.makespan ≤ old.schedule.makespan
  pub no_lower : old.lower ≤ new.lower

-- the invariant of a search of a shop: the graph and the proof are those of the shop, and no more
-- nodes are left than the search may visit in all
pub record IsSearchOf (s : JobShop) (search : Search) : Type 0 where
  pub graph : IsGraphOf s search.graph
  pub proof : IsProofOf s search.proof
  pub left : search.left ≤ search.most

-- a search has used some of its nodes, and its graph and proof are the same
pub record HasTaken (old new : Search) : Type 0 where
  pub graph : new.graph ≡ old.graph
  pub proof : new.proof ≡ old.proof
  pub most : new.most ≡ old.most
  pub left : new.left ≤ old.left

-- a valid number of nodes
abbrev pub IsNodeLimit : ℕ → Type 0
IsNodeLimit nodes = (0 < nodes) × (nodes ≤ 1000000000)

-- the errors of a search: an invalid number of nodes, or memory that runs out
abbrev pub RefusesProving : ℕ → ProveFault → Type 0
RefusesProving nodes NoMemory = Unit {0}
RefusesProving nodes BadNodes = IsNodeLimit nodes → ⊥
