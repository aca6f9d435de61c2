use Rattle.std.proofs.Common.{◌≡◌, length, map, take}
use Rattle.plan_table.specs.Names.{name_of}
use Rattle.plan_documents.specs.Capacities.{Replaces}
use Rattle.plan_documents.proofs.capacities.replaced.Given as goal

-- the given capacities so far have replaced those of their resources
abbrev pub invariant-loop-capacity : goal.invariant-loop-capacity
invariant-loop-capacity l = record {
  replaced : Replaces (map name_of l.names) (take l.capacity-index l.given) l.capacities l.list.items;
  same : length l.list.items ≡ length l.capacities;
}
