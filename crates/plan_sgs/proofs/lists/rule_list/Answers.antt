-- One more entry at each turn.
use Rattle.std.proofs.Common.{ℕ, ◌≡◌, ◌+◌, List, length, sym, ◌∙◌, ap, subst, arith}
use Rattle.std.specs.BinaryHeap.{heap_items}
use Rattle.plan_net.specs.Network.{Net, IsArc, count_of}
use Rattle.plan_net.specs.Order.{IsLeastOrder, IsTopological}
use Rattle.plan_sgs.specs.Eligibility.{AreInDegrees, QueuesFree, Lowers}
use Rattle.plan_sgs.proofs.InstanceLemmas.{count-problem}
use Rattle.plan_sgs.proofs.QueueLemmas.{queue_popped, popped_keyed}
use Rattle.plan_sgs.proofs.TakingLemmas.{IsTaking, taking_first, taking_some, taking_more, taking_last, popped_next, successor_waits, rule_turns}
use Rattle.plan_sgs.proofs.lists.rule_list.Goals as goal

pub first_queue-requires-clause-keys : goal.first_queue-requires-clause-keys
first_queue-requires-clause-keys c = omega (arith, c.requires, count-problem c.args.instance.now, ap count_of c.network-network.ensures.network)

pub loop-turn-init : goal.loop-turn-init
loop-turn-init c =
    let degrees = subst (λ (n : Net). AreInDegrees (count_of n) n.arcs c.in_ok-waits.waits.items) c.network-network.ensures.network c.in_ok-waits.ensures in
    let free = subst (λ (xs : List ℕ). QueuesFree xs (heap_items c.in_ok-queue.queue)) c.deref.ensures.value c.in_ok-queue.ensures.free in
    taking_first c.args.instance.now c.args.keys.now c.new-list.result.items c.in_ok-waits.waits.items
    (heap_items c.in_ok-queue.queue) c.new-list.ensures.items degrees c.in_ok-queue.ensures.queue free

pub unreachable-requires : goal.unreachable-requires
unreachable-requires c =
    let net = c.network-network.ensures.network in
    taking_some c.args.instance.now c.args.keys.now c.order-order.result.now c.loop-turn._turn
    c.loop-turn.list.items c.loop-turn.waits.items
    (heap_items c.loop-turn.queue) c.network-network.ensures.instance
    (subst (λ (n : Net). IsLeastOrder n c.order-order.result.now) net c.order-order.ensures.least) (subst (λ (n : Net). IsTopological n c.order-order.result.now) net c.order-order.ensures.topological)
    (omega (arith, c.len-turn-end.ensures.count, ap count_of net, c.loop-turn-test.true)) c.loop-turn.invariant (omega (arith, c.in_default.ensures.none, c.loop-turn.queue.data.ok))

pub lower_waits-requires-clause-activity : goal.lower_waits-requires-clause-activity
lower_waits-requires-clause-activity c =
    let keyed = popped_keyed c.args.keys.now c.in-Some.field-0 (heap_items c.loop-turn.queue) (heap_items c.pop.new.self) c.loop-turn.invariant.queue c.in-Some.ensures.permutation in
    (keyed.0, omega (arith, keyed.1, c.requires, count-problem c.args.instance.now, ap count_of c.network-network.ensures.network))

pub lower_waits-requires-clause-waits : goal.lower_waits-requires-clause-waits
lower_waits-requires-clause-waits c = c.loop-turn.invariant.size ∙ sym (ap count_of c.network-network.ensures.network)

pub lower_waits-requires-clause-keys : goal.lower_waits-requires-clause-keys
lower_waits-requires-clause-keys c = omega (arith, c.requires, count-problem c.args.instance.now, ap count_of c.network-network.ensures.network)

pub lower_waits-requires-clause-waiting : goal.lower_waits-requires-clause-waiting
lower_waits-requires-clause-waiting c h arc =
    let keys : length c.args.keys.now ≡ count_of c.args.instance.now.project.network = c.requires ∙ count-problem c.args.instance.now in
    let next = popped_next c.args.instance.now c.args.keys.now c.loop-turn._turn c.loop-turn.list.items
    c.loop-turn.waits.items (heap_items c.loop-turn.queue)
    (heap_items c.pop.new.self) c.in-Some.field-0 keys c.loop-turn.invariant c.in-Some.ensures.permutation
    c.in-Some.ensures.heap_order in
    successor_waits c.args.instance.now c.args.keys.now c.loop-turn._turn c.loop-turn.list.items
    c.loop-turn.waits.items (heap_items c.loop-turn.queue) c.in-Some.field-0.0.1
    c.network-network.ensures.instance.project.network c.loop-turn.invariant next.eligible h
    (subst (λ (n : Net). IsArc n c.in-Some.field-0.0.1 h) c.network-network.ensures.network arc)

pub lower_waits-requires-clause-queue : goal.lower_waits-requires-clause-queue
lower_waits-requires-clause-queue c = queue_popped c.args.keys.now c.in-Some.field-0
    (heap_items c.loop-turn.queue) (heap_items c.pop.new.self) c.loop-turn.invariant.queue
    c.in-Some.ensures.permutation c.in-Some.ensures.heap_order

pub loop-turn-preserved : goal.loop-turn-preserved
loop-turn-preserved c =
    let net = c.network-network.ensures.network in
    let keys : length c.args.keys.now ≡ count_of c.args.instance.now.project.network = c.requires ∙ count-problem c.args.instance.now in
    let lowers = subst (λ (n : Net). Lowers n c.in-Some.field-0.0.1 c.loop-turn.waits.items c.lower_waits.new.waits.items) net c.in_ok-lower_waits.ensures.waits in
    subst (λ (xs : List ℕ). IsTaking c.args.instance.now c.args.keys.now (c.loop-turn._turn + 1) xs c.lower_waits.new.waits.items (heap_items c.lower_waits.new.queue)) (sym c.in_ok-push.ensures.items)
    (taking_more c.args.instance.now c.args.keys.now c.loop-turn._turn c.loop-turn.list.items
    c.loop-turn.waits.items c.lower_waits.new.waits.items (heap_items c.loop-turn.queue)
    (heap_items c.pop.new.self) (heap_items c.lower_waits.new.queue) c.in-Some.field-0 keys
    (omega (arith, c.len-turn-end.ensures.count, ap count_of net, c.loop-turn-test.true))
    c.loop-turn.invariant c.in-Some.ensures.permutation c.in-Some.ensures.heap_order lowers
    c.in_ok-lower_waits.ensures.queue c.in_ok-lower_waits.ensures.joins)

pub returns-clause-list : goal.returns-clause-list
returns-clause-list c =
    let size : c.len-turn-end.result ≡ count_of c.args.instance.now.project.network = c.len-turn-end.ensures.count ∙ ap count_of c.network-network.ensures.network in
    taking_last c.args.instance.now c.args.keys.now c.loop-turn._turn c.loop-turn.list.items
    c.loop-turn.waits.items (heap_items c.loop-turn.queue)
    (omega (arith, size, c.loop-turn-test.false)) c.loop-turn.invariant

pub returns-clause-turns : goal.returns-clause-turns
returns-clause-turns c =
    let net = c.network-network.ensures.network in
    let size : c.len-turn-end.result ≡ count_of c.args.instance.now.project.network = c.len-turn-end.ensures.count ∙ ap count_of net in
    rule_turns c.args.instance.now c.args.keys.now c.order-order.result.now c.loop-turn.list.items
    c.network-network.ensures.instance (subst (λ (n : Net). IsLeastOrder n c.order-order.result.now) net
    c.order-order.ensures.least)
    (subst (λ (n : Net). IsTopological n c.order-order.result.now) net c.order-order.ensures.topological) c.loop-turn.invariant.from_one
    (taking_last c.args.instance.now c.args.keys.now c.loop-turn._turn c.loop-turn.list.items
    c.loop-turn.waits.items (heap_items c.loop-turn.queue)
    (omega (arith, size, c.loop-turn-test.false)) c.loop-turn.invariant)
