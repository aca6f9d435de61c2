use Rattle.plan_prove.proofs.StateLemmas.{none_after}
use Rattle.plan_prove.proofs.deduction.propagate.Goals as goal

pub returns-in_err-apply_all : goal.returns-in_err-apply_all
returns-in_err-apply_all c =
    none_after c.args.graph.now c.args.limit c.args.state.now c.loop-turn.state c.apply_all.new.state c.apply_all.result c.from_residual.result
    c.in_err-apply_all.was c.from_residual.ensures c.loop-turn.invariant c.apply_all.ensures
