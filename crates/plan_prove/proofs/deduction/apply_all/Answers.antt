use Rattle.std.proofs.Common.{refl}
use Rattle.std.specs.Prelude.{None}
use Rattle.plan_prove.proofs.StateLemmas.{none_after}
use Rattle.plan_prove.proofs.deduction.apply_all.Goals as goal

pub returns-in_default : goal.returns-in_default
returns-in_default c =
    none_after c.args.graph.now c.args.limit c.args.state.now c.loop-rule.state c.apply.new.state c.apply.result None c.in_default.is refl c.loop-rule.invariant c.apply.ensures
