use Rattle.std.proofs.Common.{◌≡◌, map, drop}
use Rattle.plan_table.specs.Table.{resource_of}
use Rattle.plan_table.specs.Needs.{needs_fit}
use Rattle.plan_table.proofs.needs.check_row.Given as goal

-- the resources that are left decide
abbrev pub invariant-loop-k : goal.invariant-loop-k
invariant-loop-k l = needs_fit l.line l.needs l.k (map resource_of (drop l.k l.resources)) ≡ needs_fit l.line l.needs 0 (map resource_of l.resources)
