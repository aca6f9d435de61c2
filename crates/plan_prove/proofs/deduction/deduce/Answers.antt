use Rattle.plan_prove.proofs.StateLemmas.{none_after}
use Rattle.plan_prove.proofs.deduction.deduce.Goals as goal

pub returns-in_err-has_risen : goal.returns-in_err-has_risen
returns-in_err-has_risen c =
    none_after c.args.graph.now c.args.limit c.args.state.now c.loop-round.state c.advance.new.state c.advance.result c.from_residual.result
    c.in_err-has_risen.was c.from_residual.ensures c.loop-round.invariant c.advance.ensures
