use Rattle.std.proofs.Common.{◌≡◌, map, take}
use Rattle.plan_table.specs.Names.{name_of}
use Rattle.plan_views.specs.LinkColumns.{predecessors_text}
use Rattle.plan_views.proofs.links.predecessors_text.Given as goal

-- the predecessors in the arcs so far
abbrev pub invariant-loop-arc : goal.invariant-loop-arc
invariant-loop-arc l = l.text.items ≡ predecessors_text (map name_of l.ids) l.j (take l.arc-index l.arcs)
