-- The greatest end is the makespan.
use Rattle.std.proofs.Common.{◌∙◌}
use Rattle.plan_sgs.proofs.ProjectTurnLemmas.{tree_facts}
use Rattle.plan_sgs.proofs.ProjectReadLemmas.{makespan_is}
use Rattle.plan_sgs.proofs.project_tree.ProjectTree.makespan.Goals as goal

pub returns-clause-value : goal.returns-clause-value
returns-clause-value c = c.end.ensures.value ∙ makespan_is c.args.self.now c.self.inside.placed.items (tree_facts _ _ _ _ _ _ _ c.self.view_is c.self.invariant) c.requires
