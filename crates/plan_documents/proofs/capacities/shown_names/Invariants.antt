use Rattle.std.proofs.Common.{◌≡◌, length, map}
use Rattle.std.specs.Prelude.{string_bytes}
use Rattle.plan_table.specs.Names.{name_of}
use Rattle.plan_documents.specs.Capacities.{AreShown}
use Rattle.plan_documents.proofs.capacities.shown_names.Given as goal

-- the names of the resources so far
abbrev pub invariant-loop-k : goal.invariant-loop-k
invariant-loop-k l = record {
  whole : length l.list.items ≡ l.k;
  shown : AreShown (map name_of l.names) 1 (map string_bytes l.list.items);
}
