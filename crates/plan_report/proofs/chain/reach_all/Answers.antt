use Rattle.std.proofs.Common.{◌≤◌, length, ap, arith}
use Rattle.plan_net.specs.Network.{count_of}
use Rattle.plan_sgs.specs.Instances.{problem_of}
use Rattle.plan_sgs.proofs.InstanceLemmas.{count-problem}
use Rattle.plan_report.proofs.ReachLemmas.{closed_more, all_reached}
use Rattle.plan_report.proofs.chain.reach_all.Goals as goal

pub loop-m-preserved : goal.loop-m-preserved
loop-m-preserved c =
    closed_more (problem_of c.args.instance.now) c.args.starts.now c.args.slacks.now c.loop-m.marks.items c.loop-m.reached.items c.loop-m.nexts.items
    c.reach.new.marks.items c.reach.new.reached.items c.reach.new.nexts.items c.loop-m.m (omega arith) c.loop-m.invariant
    c.in_ok-reach.ensures.search c.in_ok-reach.ensures.kept c.in_ok-reach.ensures.all

pub returns-then-m-len : goal.returns-then-m-len
returns-then-m-len c =
    let few : length c.loop-m.reached.items ≤ c.loop-m.m = omega (arith, c.if-m-len.true, c.len.ensures, c.loop-m.reached.ok.0) in
    all_reached (problem_of c.args.instance.now) c.args.starts.now c.args.slacks.now c.loop-m.marks.items c.loop-m.reached.items c.loop-m.nexts.items c.loop-m.m few c.loop-m.invariant

pub returns : goal.returns
returns c =
    let i = c.args.instance.now in
    let counted = ap count_of c.network.ensures.network in
    let few : length c.loop-m.reached.items ≤ c.loop-m.m = omega (arith, c.loop-m-test.false, c.loop-m.invariant.search.counted, c.len-m-end.ensures.count, counted, count-problem i) in
    all_reached (problem_of i) c.args.starts.now c.args.slacks.now c.loop-m.marks.items c.loop-m.reached.items c.loop-m.nexts.items c.loop-m.m few c.loop-m.invariant
