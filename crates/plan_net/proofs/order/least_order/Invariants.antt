use Rattle.std.proofs.Common.{◌≤◌}
use Rattle.plan_net.specs.Placed.{IsPlacedOrder, IsStuckBelow, open_count}
use Rattle.plan_net.proofs.order.least_order.Given as goal

-- each activity placed so far was the least that could come, and none below `first` can come
abbrev pub invariant-loop-j : goal.invariant-loop-j
invariant-loop-j l = record {
  order : IsPlacedOrder l.arcs l.order.items l.placed.items;
  first : 1 ≤ l.first;
  below : IsStuckBelow l.arcs l.placed.items l.first;
}

abbrev pub decreases-loop-j : goal.decreases-loop-j
decreases-loop-j l = open_count l.placed.items
