use Rattle.std.proofs.Common.{◌≡◌, map, take}
use Rattle.plan_table.specs.Names.{name_of}
use Rattle.plan_views.specs.LinkColumns.{links_of, predecessor_line}
use Rattle.plan_print.proofs.links.predecessor_lines.Given as goal

-- the texts so far
abbrev pub invariant-loop-link : goal.invariant-loop-link
invariant-loop-link l = map name_of l.lines.items ≡ map predecessor_line (map links_of (take l.link-index l.links))
