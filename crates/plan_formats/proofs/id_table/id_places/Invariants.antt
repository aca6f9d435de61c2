use Rattle.std.proofs.Common.{◌≡◌, map, take}
use Rattle.plan_table.specs.Names.{name_of}
use Rattle.plan_formats.specs.IdTables.{id_places}
use Rattle.plan_formats.proofs.id_table.id_places.Given as goal

-- the places of the column, or the length of the longest of the ids so far
abbrev pub invariant-loop-id : goal.invariant-loop-id
invariant-loop-id l = l.longest ≡ id_places l.fn.layout (map name_of (take l.id-index l.ids))
