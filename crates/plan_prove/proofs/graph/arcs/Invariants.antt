use Rattle.std.specs.List.{All}
use Rattle.plan_prove.specs.Graphs.{IsArcOf}
use Rattle.plan_prove.proofs.graph.arcs.Given as goal

-- all that are there are of the shop
abbrev pub invariant-loop-second : goal.invariant-loop-second
invariant-loop-second l = All (IsArcOf l.shop) l.arcs.items
