-- The text of a list is read as its project.
use Rattle.std.proofs.Common.{◌≡◌, ℕ, List}
use Rattle.plan_psplib.specs.Project.{Project, SaysProject}
use Rattle.plan_psplib.proofs.OnceLemmas.{project_once}

-- the text of a project is read as this project
pub read_as : (text : List ℕ) (p q : Project) → SaysProject text p → SaysProject text q → q ≡ p
read_as text p q said read = project_once text q p read said
