-- The keys fall as the numbers of successors rise.
use Rattle.std.proofs.Common.{◌≡◌, ◌-◌, get_or, subst, arith}
use Rattle.plan_net.specs.Network.{count_of}
use Rattle.plan_sgs.proofs.KeyLemmas.{MakeSum, sum_push, leaves_fall}
use Rattle.plan_sgs.proofs.keys.most_successors_first.Goals as goal

pub loop-i-preserved : goal.loop-i-preserved
loop-i-preserved c =
    let fits = c.type_inv.totals c.loop-i.i in
    sum_push 4294967295 c.args.totals.now c.loop-i.keys.items c.push.new.self.items c.loop-i.i
    (4294967295 - get_or c.args.totals.now c.loop-i.i 0) c.loop-i.invariant c.in_ok-push.ensures.items
    (omega (arith, fits))

pub returns : goal.returns
returns c =
    let all : c.loop-i.i ≡ count_of c.args.network.now = omega (arith, c.len-i-end.ensures.count, c.loop-i-test.false, c.loop-i.auto.i-end) in
    let sums = subst (MakeSum 4294967295 c.args.totals.now c.loop-i.keys.items) all c.loop-i.invariant in
    (sums.size, (c.args.totals.now, c.requires, leaves_fall 4294967295 c.args.totals.now c.loop-i.keys.items (count_of c.args.network.now) sums))
