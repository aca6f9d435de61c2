-- The entries so far and those that the rule takes after them are its whole list.
use Rattle.std.specs.BinaryHeap.{heap_items}
use Rattle.plan_sgs.proofs.TakingLemmas.{IsTaking}
use Rattle.plan_sgs.proofs.lists.rule_list.Given as goal

abbrev pub invariant-loop-turn : goal.invariant-loop-turn
invariant-loop-turn l = IsTaking l.instance l.keys l._turn l.list.items l.waits.items (heap_items l.queue)
