-- The successors so far that wait for none are in the queue.
use Rattle.std.specs.BinaryHeap.{heap_items}
use Rattle.plan_sgs.proofs.QueueLemmas.{AreJoining}
use Rattle.plan_sgs.proofs.eligibility.lower_waits.Given as goal

abbrev pub invariant-loop-h : goal.invariant-loop-h
invariant-loop-h l = AreJoining l.h-items l.h-index l.waits.items l.keys (heap_items l.fn.queue) (heap_items l.queue)
