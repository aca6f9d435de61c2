use Rattle.std.proofs.Common.{subst}
use Rattle.plan_exact.specs.Laws.{KeepsLaws}
use Rattle.plan_exact.specs.ShopTrees.{Counted, tree_of}
use Rattle.plan_exact.proofs.ShopTreeLemmas.{keeps_laws}
use Rattle.plan_exact.proofs.counted.CountedTreeBranching.known.Goals as goal

pub returns : goal.returns
returns c = subst (λ (t : Counted). KeepsLaws (tree_of t.shop)) c.self.view_is (keeps_laws c.self.inside.tree.shop c.self.invariant)
