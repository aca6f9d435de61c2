use Rattle.std.proofs.Common.{take, sym, rules}
use Rattle.std.specs.Bool.{IsTrue}
use Rattle.std.proofs.lemmas.List.{take_all}
use Rattle.std.proofs.lemmas.List.Elements.{All-more, All-same}
use Rattle.plan_net.specs.Network.{unlagged}
use Rattle.plan_net.specs.Limits.{IsGoodArc}
use Rattle.plan_net.proofs.checks.first_bad_arc.Goals as goal

pub loop-i-preserved : goal.loop-i-preserved
loop-i-preserved c =
    let from : IsTrue c.is_activity.result = search (rules, c.if-not-is_activity.false) in
    let to : IsTrue c.is_activity-else-not-is_activity.result = search (rules, c.if-not-is_activity-2.false) in
    All-more (IsGoodArc (unlagged c.args.durations.now c.args.arcs.now)) c.args.arcs.now c.loop-i.i-index (0, 0) c.loop-i-test.true c.loop-i.invariant
    (c.is_activity.ensures.0 from, c.is_activity-else-not-is_activity.ensures.0 to)

pub returns-clause-none : goal.returns-clause-none
returns-clause-none c =
    All-same (IsGoodArc (unlagged c.args.durations.now c.args.arcs.now)) c.args.arcs.now
    (take c.loop-i.i-index c.args.arcs.now) (sym
    (take_all c.loop-i.i-index c.args.arcs.now c.loop-i-test.false)) c.loop-i.invariant
