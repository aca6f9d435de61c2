-- The resources and the predecessors of the activities in a project file.
use Rattle.std.proofs.Common.{◌≡◌, ℕ, List, subst}
use Rattle.plan_psplib.specs.Project.{Project, SaysProject}
use Rattle.plan_sgs.specs.Instances.{Planned, planned}
use Rattle.plan_table.specs.Names.{Name}
use Rattle.plan_views.specs.LinkColumns.{Links, project_links}
use Rattle.plan_documents.specs.Capacities.{Replaces}
use Rattle.plan_cli.specs.Links.{AreFileLinks}
use Rattle.plan_documents.specs.Plans.{resources_in}
use Rattle.plan_documents.specs.declared.capacities.Capacity.{Capacity}

-- those of the project in a file, with replaced capacities
pub links_are : (ids : List Name) (given : List Capacity) (file : List ℕ) (p : Project) (names : List Name) (available capacities : List ℕ) (i : Planned) (links : List Links)
    → SaysProject file p → names ≡ resources_in file → available ≡ p.available → Replaces names given available capacities → i ≡ planned p capacities
    → links ≡ project_links i names ids → AreFileLinks ids given file links
links_are ids given file p names available capacities i links says named same replaces is made = (
  p,
  says,
  (
    capacities,
    subst (λ (n : List Name). Replaces n given p.available capacities) named (subst (λ (l : List ℕ). Replaces names given l capacities) same replaces),
    subst (λ (n : List Name). links ≡ project_links (planned p capacities) n ids) named (subst (λ (j : Planned). links ≡ project_links j names ids) is made),
  ),
)
