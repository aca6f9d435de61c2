-- The resources and the predecessors of activities, for two columns of a report (docs/definitions.md,
-- "Runs").
use Rattle.std.specs.Prelude.{List, [], ◌∷◌}
use Rattle.plan_table.specs.Names.{Name}
use Rattle.plan_views.specs.LinkColumns.{Links, project_links}
use Rattle.plan_documents.specs.declared.documents.Plan.{Plan}
use Rattle.plan_documents.specs.declared.documents.Plan.TheVariants as plan

-- those of the activities of a plan, by the names of its resources and the ids of its activities; a
-- job shop has none
abbrev pub plan_links : Plan → List Name → List Name → List Links
plan_links (plan.Project i own) resources ids = project_links i resources ids
plan_links (plan.Shop s) resources ids = []

-- the same if there are ids
abbrev pub row_links : Plan → List Name → List Name → List Links
row_links p resources [] = []
row_links p resources (id ∷ ids) = plan_links p resources (id ∷ ids)
