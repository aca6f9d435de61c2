use Rattle.std.proofs.Common.{◌≡◌, map, take, string_bytes}
use Rattle.plan_table.specs.Names.{name_of}
use Rattle.plan_sheet.specs.Parts.{parts_list}
use Rattle.plan_sheet.proofs.parts.parts_list.Given as goal

-- the resources so far are listed
abbrev pub invariant-loop-part : goal.invariant-loop-part
invariant-loop-part l =
    string_bytes l.list ≡ parts_list (map name_of l.resources) l.bar (take l.part-index l.parts)
