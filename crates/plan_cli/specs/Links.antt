-- The resources and the predecessors of the activities in a project file (docs/definitions.md,
-- "Runs").
use Rattle.std.specs.Prelude.{◌≡◌, ℕ, List, [], ◌∷◌}
use Rattle.plan_sgs.specs.Instances.{Planned}
use Rattle.plan_table.specs.Names.{Name}
use Rattle.plan_views.specs.LinkColumns.{Links, project_links}
use Rattle.plan_documents.specs.Plans.{IsOfProject, resources_in}
use Rattle.plan_documents.specs.declared.capacities.Capacity.{Capacity}
use Rattle.plan_documents.specs.declared.documents.Subject.{Subject}
use Rattle.plan_documents.specs.declared.documents.Subject.TheVariants as subject

-- those of the project in a file, with given capacities, by the names of the resources and the ids
-- of the activities
abbrev pub AreFileLinks : List Name → List Capacity → List ℕ → List Links → Type 0
AreFileLinks ids given file links = IsOfProject given
    (λ (i : Planned) (made : List Links). made ≡ project_links i (resources_in file) ids) file links

-- the same, if the activities have ids
abbrev pub AreProjectLinks : List Name → List Capacity → List ℕ → List Links → Type 0
AreProjectLinks [] given file links = links ≡ []
AreProjectLinks (id ∷ ids) given file links = AreFileLinks (id ∷ ids) given file links

-- the same for a project; a job shop has none
abbrev pub AreSubjectLinks : List Name → Subject → List ℕ → List Links → Type 0
AreSubjectLinks ids (subject.Project given) file links = AreProjectLinks ids given.now file links
AreSubjectLinks ids (subject.Shop instance) file links = links ≡ []
