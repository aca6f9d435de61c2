use Rattle.std.proofs.Common.{subst}
use Rattle.plan_exact.specs.Laws.{KeepsLaws}
use Rattle.plan_exact.specs.ProjectTrees.{CountedProject, project_tree}
use Rattle.plan_exact.proofs.ProjectTreeLemmas.{keeps_laws}
use Rattle.plan_exact.proofs.counted_project.CountedProjectTreeBranching.known.Goals as goal

pub returns : goal.returns
returns c = subst (λ (t : CountedProject). KeepsLaws (project_tree t.instance)) c.self.view_is (keeps_laws c.self.inside.tree.instance c.self.invariant)
