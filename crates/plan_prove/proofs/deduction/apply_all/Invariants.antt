use Rattle.plan_prove.specs.States.{Follows}
use Rattle.plan_prove.proofs.deduction.apply_all.Given as goal

-- the state follows from the first one
abbrev pub invariant-loop-rule : goal.invariant-loop-rule
invariant-loop-rule l = Follows l.graph l.limit l.fn.state l.state
