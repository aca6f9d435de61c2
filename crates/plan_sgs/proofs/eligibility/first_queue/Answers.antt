-- One more activity at each turn.
use Rattle.std.proofs.Common.{ℕ, ◌≡◌, ◌+◌, ◌-◌, ◌≤◌, length, get_or, sym, ap, subst, arith}
use Rattle.std.specs.BinaryHeap.{heap_items}
use Rattle.std.specs.Global.{Global}
use Rattle.std.specs.declared.collections.BinaryHeap.{BinaryHeap}
use Rattle.plan_sgs.specs.Eligibility.{Entry}
use Rattle.plan_sgs.proofs.QueueLemmas.{AreQueued, queued_none, queued_skip, queued_push, queued_all}
use Rattle.plan_sgs.proofs.eligibility.first_queue.Goals as goal
use Rattle.plan_sgs.proofs.eligibility.first_queue.Goals.{then-waits-i-eq0+in_ok-push, else-waits-i-eq0}

pub loop-i-init : goal.loop-i-init
loop-i-init c = queued_none c.args.keys.now c.args.waits.now (heap_items c.new-queue.result) c.new-queue.ensures.heap_order c.new-queue.ensures.items

pub loop-i-preserved : goal.loop-i-preserved
loop-i-preserved c = elim c.if-waits-i-eq0.branch [
  | then-waits-i-eq0+in_ok-push w ↦
      let inside : c.loop-i.i + 1 ≤ length c.args.keys.now = omega (arith, c.loop-i-test.true, c.len-i-end.ensures.count, c.requires.keys) in
      let place : c.loop-i.i + 1 - 1 ≡ c.loop-i.i = omega arith in
      subst (λ (queue : BinaryHeap Entry Global). AreQueued c.args.keys.now c.args.waits.now (c.loop-i.i + 1) (heap_items queue)) (sym w.queue-is)
      (queued_push c.args.keys.now c.args.waits.now c.loop-i.i _ (heap_items c.loop-i.queue) (heap_items w.push.new.self) c.loop-i.invariant w.if-waits-i-eq0.true
      (omega arith, inside, ap (λ (k : ℕ). get_or c.args.keys.now k 0) (sym place)) place w.in_ok-push.ensures.permutation w.in_ok-push.ensures.heap_order)
  | else-waits-i-eq0 w ↦
      subst (λ (queue : BinaryHeap Entry Global). AreQueued c.args.keys.now c.args.waits.now (c.loop-i.i + 1) (heap_items queue)) (sym w.queue-is)
      (queued_skip c.args.keys.now c.args.waits.now c.loop-i.i (heap_items c.loop-i.queue) c.loop-i.invariant w.if-waits-i-eq0.false)
]

pub returns-clause-queue : goal.returns-clause-queue
returns-clause-queue c = c.loop-i.invariant.queue

pub returns-clause-free : goal.returns-clause-free
returns-clause-free c = queued_all c.args.keys.now c.args.waits.now c.loop-i.i
    (heap_items c.loop-i.queue) c.loop-i.invariant
    (omega (arith, c.loop-i-test.false, c.len-i-end.ensures.count, c.requires.waits))
