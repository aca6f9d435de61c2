use Rattle.std.specs.List.{All}
use Rattle.plan_prove.specs.Graphs.{IsPairOf}
use Rattle.plan_prove.proofs.graph.pairs.Given as goal

-- all that are there are of the shop
abbrev pub invariant-loop-second : goal.invariant-loop-second
invariant-loop-second l = All (IsPairOf l.shop) l.pairs.items
