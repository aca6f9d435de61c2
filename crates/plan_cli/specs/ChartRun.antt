-- The output of `plan chart` for the bytes that it reads (docs/definitions.md, "Runs").
use Rattle.std.specs.Prelude.{◌≡◌, ℕ, List}
use Rattle.plan_sgs.specs.Problem.{makespan}
use Rattle.plan_views.specs.Charts.{chart_text_of}
use Rattle.plan_documents.specs.Documents.{problem_of}
use Rattle.plan_cli.specs.PlanRefs.{viewed}
use Rattle.plan_cli.specs.Scheduled.{IsScheduleFrom}
use Rattle.plan_documents.specs.declared.documents.Plan.{Plan}
use Rattle.plan_cli.specs.declared.origins.Origin.{Origin}

-- the chart of a schedule with these starts and this makespan: one line for each activity, numbered
-- from 1, or for each machine, numbered from 0
abbrev pub chart_of : Plan → List ℕ → ℕ → List ℕ
chart_of p starts ends = chart_text_of (viewed p) starts ends

-- a text is the chart of a plan's schedule
pub record IsChartFrom (from : Origin) (p : Plan) (text : List ℕ) : Type 0 where
  pub starts : List ℕ
  pub schedule : IsScheduleFrom from p starts
  pub shown : text ≡ chart_of p starts (makespan (problem_of p) starts)
