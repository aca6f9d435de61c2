use Rattle.std.proofs.Common.{◌≡◌, map, take}
use Rattle.plan_table.specs.Names.{name_of}
use Rattle.plan_views.specs.LinkColumns.{longest}
use Rattle.plan_views.proofs.links.longest.Given as goal

-- the longest of the heading and of the texts so far
abbrev pub invariant-loop-text : goal.invariant-loop-text
invariant-loop-text l = l.most ≡ longest l.heading (map name_of (take l.text-index l.texts))
