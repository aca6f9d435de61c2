use Rattle.std.proofs.Common.{◌≡◌, map, drop}
use Rattle.plan_table.specs.Names.{name_of, first_name}
use Rattle.plan_table.proofs.names.first_name.Given as goal

-- the first name is among those that are left
abbrev pub invariant-loop-name : goal.invariant-loop-name
invariant-loop-name l = first_name l.n (map name_of (drop l.name-index l.names)) ≡ first_name l.n (map name_of l.names)
