use Rattle.plan_exact.proofs.ProjectTreeLemmas.{found_is_shortest}
use Rattle.plan_exact.proofs.project_laws.found_is_shortest_project.Goals as goal

pub returns : goal.returns
returns c = found_is_shortest
