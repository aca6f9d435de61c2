-- The output of `plan schedule` and `plan shop` for the bytes that they read (docs/definitions.md,
-- "Runs").
use Rattle.std.specs.Prelude.{◌≡◌, ℕ, List}
use Rattle.plan_sgs.specs.Problem.{makespan}
use Rattle.plan_views.specs.ScheduleTables.{schedule_text_of}
use Rattle.plan_documents.specs.Documents.{problem_of}
use Rattle.plan_cli.specs.PlanRefs.{viewed}
use Rattle.plan_cli.specs.Scheduled.{IsByRule}
use Rattle.plan_documents.specs.declared.documents.Plan.{Plan}

-- the table of a schedule with these starts and this makespan
abbrev pub table_of : Plan → List ℕ → ℕ → List ℕ
table_of p starts ends = schedule_text_of (viewed p) starts ends

-- a text is the table of a plan's schedule by the rule with this name
pub record IsTableBy (name : List ℕ) (p : Plan) (text : List ℕ) : Type 0 where
  pub starts : List ℕ
  pub schedule : IsByRule name p starts
  pub shown : text ≡ table_of p starts (makespan (problem_of p) starts)
