use Rattle.std.proofs.Common.{◌≡◌, ◌+◌, ◌-◌, suc, ap, arith}
use Rattle.plan_orlib.specs.declared.steps.Step.{Step}
use Rattle.plan_shop.specs.Shop.{time_of, times_from}
use Rattle.plan_shop.proofs.TailLemmas.{times_from-more, step-is}
use Rattle.plan_shop.proofs.PlacingLemmas.{time-short}
use Rattle.plan_shop.proofs.tree.tail.Goals as goal

pub loop-later-preserved : goal.loop-later-preserved
loop-later-preserved c =
    let x = c.args.i + c.loop-later.later in
    let read = ap (λ (w : Step). w.time) (step-is c.args.shop.now x c.step-total.result c.step-total.ensures.value) in
    let short = time-short c.args.shop.now c.machines-machines.ensures.shop x in
    let behind : suc c.args.i + (c.loop-later.later - 1) ≡ x = omega arith in
    let count : c.loop-later.later + 1 - 1 ≡ suc (c.loop-later.later - 1) = omega arith in
    let more = times_from-more c.args.shop.now (c.loop-later.later - 1) (suc c.args.i) in
    record {
      is = omega (arith, more, read, ap (time_of c.args.shop.now) behind, ap (times_from c.args.shop.now (suc c.args.i)) count);
      few = omega (arith, read, short);
    }
