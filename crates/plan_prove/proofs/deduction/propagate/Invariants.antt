use Rattle.plan_prove.specs.States.{Follows}
use Rattle.plan_prove.proofs.deduction.propagate.Given as goal

-- the state follows from the first one
abbrev pub invariant-loop-turn : goal.invariant-loop-turn
invariant-loop-turn l = Follows l.graph l.limit l.fn.state l.state
