-- The successors so far wait for one less.
use Rattle.plan_sgs.proofs.QueueLemmas.{AreLowered}
use Rattle.plan_sgs.proofs.eligibility.lower_each.Given as goal

abbrev pub invariant-loop-h : goal.invariant-loop-h
invariant-loop-h l = AreLowered l.h-items l.h-index l.fn.waits.items l.waits.items
