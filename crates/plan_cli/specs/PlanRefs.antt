-- Plans as the tables of plan_views have them (docs/definitions.md, "Runs").
use Rattle.plan_views.specs.Plans as views
use Rattle.plan_documents.specs.declared.documents.Plan.{Plan}
use Rattle.plan_documents.specs.declared.documents.Plan.TheVariants as plan

-- the project or the job shop of a plan
abbrev pub viewed : Plan → views.Plan
viewed (plan.Project i ids) = views.project i
viewed (plan.Shop s) = views.shop s
