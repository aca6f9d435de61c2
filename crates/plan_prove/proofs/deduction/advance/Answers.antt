use Rattle.plan_prove.proofs.StateLemmas.{none_after}
use Rattle.plan_prove.proofs.deduction.advance.Goals as goal

pub returns-in_err-has_risen : goal.returns-in_err-has_risen
returns-in_err-has_risen c =
    none_after c.args.graph.now c.args.limit c.args.state.now c.propagate.new.state c.bound_machines.new.state c.bound_machines.result c.from_residual-in_err-has_risen.result
    c.in_err-has_risen.was c.from_residual-in_err-has_risen.ensures c.in_ok-propagate.ensures c.bound_machines.ensures
