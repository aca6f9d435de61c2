use Rattle.plan_prove.specs.States.{Follows}
use Rattle.plan_prove.proofs.deduction.deduce.Given as goal

-- the state follows from the first one
abbrev pub invariant-loop-round : goal.invariant-loop-round
invariant-loop-round l = Follows l.graph l.limit l.fn.state l.state
