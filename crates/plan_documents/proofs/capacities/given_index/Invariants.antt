use Rattle.std.proofs.Common.{map}
use Rattle.plan_table.specs.Names.{name_of}
use Rattle.plan_documents.specs.Capacities.{GivesNone}
use Rattle.plan_documents.proofs.capacities.given_index.Given as goal

-- the file gives the name to none of the resources so far
abbrev pub invariant-loop-k : goal.invariant-loop-k
invariant-loop-k l = GivesNone (map name_of l.names) l.k l.name
