-- The greater of the two.
use Rattle.std.proofs.Common.{arith, ap, ◌≡◌, ◌∙◌}
use Rattle.plan_sgs.specs.ProjectWords.{bound_of, least_of_all}
use Rattle.plan_sgs.specs.ProjectTrees.{Standing}
use Rattle.plan_sgs.proofs.project_tree.ProjectTree.bound.Goals as goal

pub returns : goal.returns
unfolding bound_of
returns c =
    let least : c.self.inside.least ≡ least_of_all c.args.self.now.instance = c.self.invariant.least_is ∙ ap (λ (v : Standing). least_of_all v.instance) c.self.view_is in
    omega (arith, least, c.reach.ensures, c.max.ensures)
