use Rattle.std.proofs.Common.{◌≡◌, ◌+◌, ◌++◌, map, drop}
use Rattle.plan_table.specs.Names.{name_of}
use Rattle.plan_table.specs.Table.{resource_of}
use Rattle.plan_weekfile.specs.Weeks.{names_from}
use Rattle.plan_weeksheet.proofs.names.resource_names.Given as goal

-- those of the resources that are left, behind the names so far, are all of them
abbrev pub invariant-loop-k : goal.invariant-loop-k
invariant-loop-k l =
    map name_of l.lines.items ++ names_from (l.k + 1) (map resource_of (drop l.k l.resources))
    ≡ names_from 1 (map resource_of l.resources)
