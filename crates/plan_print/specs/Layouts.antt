-- Plans as plan_sheet draws them (docs/definitions.md, "Runs").
use Rattle.std.specs.Prelude.{Bool}
use Rattle.plan_sheet.specs.Layouts.{Layout, activities, steps}
use Rattle.plan_documents.specs.declared.documents.Plan.{Plan}
use Rattle.plan_documents.specs.declared.documents.Plan.TheVariants as plan

-- the layout of a plan; that of a job shop has a line for each job, or else for each machine, and
-- perhaps only the steps that take time
abbrev pub layout_of : Plan → Bool → Bool → Layout
layout_of (plan.Project i ids) by_job brief = activities i
layout_of (plan.Shop s) by_job brief = steps s by_job brief
