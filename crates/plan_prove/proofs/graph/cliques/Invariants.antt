use Rattle.std.specs.List.{All}
use Rattle.plan_prove.specs.Graphs.{IsCliqueOf}
use Rattle.plan_prove.proofs.graph.cliques.Given as goal

-- all that are there are of the shop
abbrev pub invariant-loop-machine : goal.invariant-loop-machine
invariant-loop-machine l = All (IsCliqueOf l.shop) l.cliques.items
