use Rattle.std.proofs.Common.{List, ap, length, arith}
use Rattle.plan_weekverdict.proofs.ArcLemmas.{found_first, found_step, found_all}
use Rattle.plan_weekverdict.proofs.arcs.first_broken.Goals as goal

pub loop-arc-init : goal.loop-arc-init
loop-arc-init c = found_first c.args.week.now c.args.starts.now

pub loop-arc-preserved : goal.loop-arc-preserved
loop-arc-preserved c =
    found_step c.args.week.now c.args.starts.now c.deref-arc-items.result.now c.args.week.now.arcs.items c.loop-arc.arc-index _ c.loop-arc.found c.with_arc-found.result
    c.deref-arc-items.ensures.value c.loop-arc-test.true c.loop-arc.invariant c.with_arc-found.ensures

pub returns : goal.returns
returns c =
    found_all c.args.week.now c.args.starts.now c.args.week.now.arcs.items c.loop-arc.arc-index c.loop-arc.found
    (omega (arith, c.loop-arc-test.false, ap length c.deref-arc-items.ensures.value)) c.loop-arc.invariant
