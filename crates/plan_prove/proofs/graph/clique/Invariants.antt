use Rattle.std.proofs.Common.{◌≡◌}
use Rattle.plan_shop.specs.Shop.{those_below}
use Rattle.plan_prove.specs.Graphs.{lasts_on}
use Rattle.plan_prove.proofs.graph.clique.Given as goal

-- those of the first steps
abbrev pub invariant-loop-x : goal.invariant-loop-x
invariant-loop-x l = l.clique.items ≡ those_below l.x (lasts_on l.shop l.machine)
