-- One more successor at each turn.
use Rattle.std.proofs.Common.{◌≡◌, ◌+◌, ◌-◌, ◌<◌, length, get_or, refl, sym, subst, arith}
use Rattle.std.specs.BinaryHeap.{heap_items}
use Rattle.std.proofs.lemmas.List.{get_or_read}
use Rattle.std.specs.Global.{Global}
use Rattle.std.specs.declared.collections.BinaryHeap.{BinaryHeap}
use Rattle.plan_sgs.specs.Eligibility.{Entry}
use Rattle.plan_sgs.proofs.QueueLemmas.{AreJoining, joining_none, joining_push, joining_skip, joined_all}
use Rattle.plan_sgs.proofs.eligibility.lower_waits.Goals as goal
use Rattle.plan_sgs.proofs.eligibility.lower_waits.Goals.{then-index-eq0+in_ok-push, else-index-eq0}

pub loop-h-init : goal.loop-h-init
loop-h-init c = joining_none c.succs-h-items.result.now c.lower_each.new.waits.items c.args.keys.now (heap_items c.args.queue.now) c.requires.queue

pub loop-h-preserved : goal.loop-h-preserved
loop-h-preserved c =
    let row = c.succs-h-items.result.now in
    let k = c.loop-h.h-index in
    let now = c.lower_each.new.waits.items in
    let i = get_or row k 0 - 1 in
    let activity = c.succs-h-items.ensures.activities k c.loop-h-test.true in
    let within : i < length now = omega (arith, activity, c.requires.waits, c.lower_each.ensures.size) in
    let read : c.index.result.now ≡ get_or now i 0 = get_or_read now i c.index.result.now within c.index.ensures 0 in
    elim c.if-index-eq0.branch [
      | then-index-eq0+in_ok-push w ↦
          subst (λ (queue : BinaryHeap Entry Global). AreJoining row (k + 1) now c.args.keys.now (heap_items c.args.queue.now) (heap_items queue)) (sym w.queue-is)
          (joining_push row k now c.args.keys.now (heap_items c.args.queue.now) (heap_items c.loop-h.queue)
          (heap_items w.push.new.self) _ c.loop-h-test.true c.loop-h.invariant
          (omega (arith, read, w.if-index-eq0.true))
          (activity.0, omega (arith, activity.1, c.requires.keys), refl) refl w.in_ok-push.ensures.permutation w.in_ok-push.ensures.heap_order)
      | else-index-eq0 w ↦
          subst (λ (queue : BinaryHeap Entry Global). AreJoining row (k + 1) now c.args.keys.now (heap_items c.args.queue.now) (heap_items queue)) (sym w.queue-is)
          (joining_skip row k now c.args.keys.now (heap_items c.args.queue.now)
          (heap_items c.loop-h.queue) c.loop-h-test.true c.loop-h.invariant
          (λ none. w.if-index-eq0.false (omega (arith, read, none))))
    ]

pub returns-clause-queue : goal.returns-clause-queue
returns-clause-queue c = c.loop-h.invariant.queue

pub returns-clause-joins : goal.returns-clause-joins
returns-clause-joins c =
    joined_all c.args.network.now c.args.j c.succs-h-items.result.now c.loop-h.h-index c.args.waits.now.items
    c.lower_each.new.waits.items c.args.keys.now (heap_items c.args.queue.now)
    (heap_items c.loop-h.queue) c.requires.sound.limits c.requires.activity
    c.succs-h-items.ensures.exact c.succs-h-items.ensures.activities (omega (arith, c.loop-h-test.false)) c.lower_each.ensures c.loop-h.invariant
