use Rattle.std.proofs.Common.{◌≡◌, map, take}
use Rattle.plan_table.specs.Names.{name_of}
use Rattle.plan_sheet.specs.Parts.{is_part_named}
use Rattle.plan_sheet.proofs.parts.is_part_named.Given as goal

-- whether one of the resources so far has the name
abbrev pub invariant-loop-part : goal.invariant-loop-part
invariant-loop-part l =
    l.is_named ≡ is_part_named (map name_of l.resources) l.bar l.name (take l.part-index l.parts)
