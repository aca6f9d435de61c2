-- One more number at each turn.
use Rattle.std.proofs.Common.{◌+◌}
use Rattle.plan_cpm.specs.Dates.{total_float_of}
use Rattle.plan_sgs.proofs.KeyLemmas.{values_push}
use Rattle.plan_sgs.proofs.keys.total_floats.Goals as goal

pub loop-i-preserved : goal.loop-i-preserved
loop-i-preserved c = values_push (λ h. total_float_of c.args.table.now (h + 1)) c.loop-i.keys.items
    c.push.new.self.items c.loop-i.i c.tf.result c.loop-i.invariant c.in_ok-push.ensures.items c.tf.ensures
