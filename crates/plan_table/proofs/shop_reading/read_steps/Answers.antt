use Rattle.std.proofs.Common.{ap, ◌∙◌}
use Rattle.plan_psplib.specs.Lines.{trim}
use Rattle.plan_table.specs.ShopReading.{entries_of}
use Rattle.plan_table.proofs.ShopReadLemmas.{pair_taken}
use Rattle.plan_table.proofs.shop_reading.read_steps.Goals as goal

pub loop-rest-preserved : goal.loop-rest-preserved
loop-rest-preserved c =
    pair_taken c.args.line c.args.order (entries_of c.loop-rest.entries) (entries_of c.read_step.new.entries) _ c.loop-rest.rest.now
    c.machine-item.result c.time-item.result c.trim.result.now c.trim-in-len2-up.result.now
    c.in-len2-up.len_at_least c.machine-item.is c.time-item.is
    (c.trim.ensures ∙ ap trim c.deref.ensures.value) (c.trim-in-len2-up.ensures ∙ ap trim c.deref-in-len2-up.ensures.value)
    c.loop-rest.invariant c.in_ok-read_step.ensures
