use Rattle.plan_prove.specs.States.{Follows}
use Rattle.plan_prove.proofs.cliques.bound_machines.Given as goal

-- the state follows from the first one
abbrev pub invariant-loop-machine : goal.invariant-loop-machine
invariant-loop-machine l = Follows l.graph l.limit l.fn.state l.state
