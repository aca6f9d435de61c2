use Rattle.std.proofs.Common.{◌≡◌, flat_map, map}
use Rattle.std.specs.List.{range_with_len}
use Rattle.plan_table.specs.Names.{name_of}
use Rattle.plan_sheet.specs.Layouts.{shown_line}
use Rattle.plan_sheet.proofs.layouts.lines_of.Given as goal

-- the shown lines so far
abbrev pub invariant-loop-k : goal.invariant-loop-k
invariant-loop-k l = l.lines.items ≡ flat_map (shown_line (map name_of l.ids) l.first) (range_with_len 0 l.k)
