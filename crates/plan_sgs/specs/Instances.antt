-- Instances: a project and its capacities, as a scheduling problem (docs/definitions.md,
-- "Schedules").
use Rattle.std.specs.Prelude.{◌≡◌, ℕ, ◌-◌, ◌≤◌, ◌<◌, List, length, map, slice_index}
use Rattle.plan_net.specs.Network.{Net, lag_of}
use Rattle.plan_psplib.specs.Project.{Project, IsProject}
use Rattle.plan_sgs.specs.Problem.{Problem, Link, NeedsFit, IsFirstTooMuch}
use Rattle.plan_sgs.specs.declared.fault.SgsFault.{SgsFault}
use Rattle.plan_sgs.specs.declared.fault.SgsFault.TheVariants as fault

-- a project and the capacity of each of its resources
pub record Planned : Type 0 where
  pub project : Project
  pub capacities : List ℕ

-- the instance of a project and capacities
abbrev pub planned : Project → List ℕ → Planned
planned project capacities = record { project = project; capacities = capacities }

-- an arc with its lag, by the indices of its ends
abbrev pub link_of : Net → ℕ × ℕ → Link
link_of net arc = record { from = arc.0 - 1; to = arc.1 - 1; lag = lag_of net arc.0 arc.1 }

-- the scheduling problem of an instance: activities and resources are indexed from 0
unfoldable pub problem_of : Planned → Problem
problem_of i = record {
  durations = i.project.network.durations;
  links = map (link_of i.project.network) i.project.network.arcs;
  needs = i.project.needs;
  capacities = i.capacities;
}

-- the invariant of an instance: it has a capacity for each resource of the project, and no activity
-- of positive duration needs more than a capacity
pub record IsInstance (i : Planned) : Type 0 where
  pub project : IsProject i.project
  pub capacities : length i.capacities ≡ length i.project.available
  pub fit : NeedsFit (problem_of i)

-- the only error of an instance is its first need that exceeds a capacity
abbrev pub RefusesInstance : Planned → SgsFault → Type 0
RefusesInstance i (fault.NeedsTooMuch act res) = IsFirstTooMuch (problem_of i) act res
RefusesInstance i _ = ⊥

-- the index of the first need that exceeds its capacity
abbrev pub IsFirstAbove : List ℕ → List ℕ → ℕ → Type 0
IsFirstAbove needs caps k =
    (k < length caps) × (slice_index caps k < slice_index needs k)
    × ((q : ℕ) → q < k → slice_index needs q ≤ slice_index caps q)
