-- Exactly those of the activities so far that wait for none are in the queue.
use Rattle.std.specs.BinaryHeap.{heap_items}
use Rattle.plan_sgs.proofs.QueueLemmas.{AreQueued}
use Rattle.plan_sgs.proofs.eligibility.first_queue.Given as goal

abbrev pub invariant-loop-i : goal.invariant-loop-i
invariant-loop-i l = AreQueued l.keys l.waits l.i (heap_items l.queue)
