use Rattle.std.specs.List.{All}
use Rattle.plan_prove.specs.Graphs.{IsPairOf}
use Rattle.plan_prove.proofs.graph.add_pairs.Given as goal

-- all that are there are of the shop
abbrev pub invariant-loop-first : goal.invariant-loop-first
invariant-loop-first l = All (IsPairOf l.shop) l.pairs.items
