use Rattle.plan_prove.specs.States.{Follows}
use Rattle.plan_prove.proofs.cliques.raise_all.Given as goal

-- the state follows from the first one
abbrev pub invariant-loop-place : goal.invariant-loop-place
invariant-loop-place l = Follows l.graph l.limit l.fn.state l.state
