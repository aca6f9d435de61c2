-- The floats and the slacks that a report shows (docs/definitions.md, "Runs").
use Rattle.std.specs.Prelude.{◌≡◌, ◌⊎◌, ℕ, ◌<◌, List, [], map}
use Rattle.std.specs.List.{range_with_len}
use Rattle.plan_net.specs.Network.{Net, count_of}
use Rattle.plan_cpm.specs.Dates.{DateTable, AreDates, total_float_of}
use Rattle.plan_sgs.specs.Problem.{Problem, makespan}
use Rattle.plan_sgs.specs.Instances.{problem_of}
use Rattle.plan_report.specs.Slack.{AreSlacks}
use Rattle.plan_documents.specs.declared.documents.Plan.{Plan}
use Rattle.plan_documents.specs.declared.documents.Plan.TheVariants as plan

-- the total floats of so many activities, from 1 on
abbrev pub floats_in : DateTable → ℕ → List ℕ
floats_in dates count = map (total_float_of dates) (range_with_len 1 count)

-- the total float of each activity
abbrev pub AreFloats : Net → List ℕ → Type 0
AreFloats net floats =
    (dates : DateTable) × AreDates net dates × (floats ≡ floats_in dates (count_of net))

-- the slack of each activity; no slacks if the schedule ends after 10,000,000
abbrev pub AreShownSlacks : Problem → List ℕ → List ℕ → Type 0
AreShownSlacks p starts slacks =
    AreSlacks p starts slacks ⊎ ((10000000 < makespan p starts) × (slacks ≡ []))

-- the floats and the slacks of a plan; a job shop has none
abbrev pub HasFloats : Plan → List ℕ → Type 0
HasFloats (plan.Project i ids) floats = AreFloats i.project.network floats
HasFloats (plan.Shop s) floats = floats ≡ []

abbrev pub HasSlacks : Plan → List ℕ → List ℕ → Type 0
HasSlacks (plan.Project i ids) starts slacks = AreShownSlacks (problem_of i) starts slacks
HasSlacks (plan.Shop s) starts slacks = slacks ≡ []

-- a relation holds for the floats and the slacks of starts
pub record HasMargins (p : Plan) (starts : List ℕ) (Holds : List ℕ → List ℕ → Type 0)
    : Type 0 where
  pub floats : List ℕ
  pub total : HasFloats p floats
  pub slacks : List ℕ
  pub shown : HasSlacks p starts slacks
  pub holds : Holds floats slacks
