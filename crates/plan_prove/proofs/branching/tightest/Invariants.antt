use Rattle.std.proofs.Common.{◌<◌, length}
use Rattle.std.specs.Prelude.{IfSome}
use Rattle.plan_prove.proofs.branching.tightest.Given as goal

-- the best so far is one of the pairs
abbrev pub invariant-loop-place : goal.invariant-loop-place
invariant-loop-place l = IfSome l.best (λ best. best.place < length l.graph.pairs.items)
