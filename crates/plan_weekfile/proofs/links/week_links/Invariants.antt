use Rattle.std.proofs.Common.{◌≡◌, map}
use Rattle.std.specs.List.{range_with_len}
use Rattle.plan_table.specs.Names.{name_of}
use Rattle.plan_views.specs.LinkColumns.{links_of}
use Rattle.plan_weekfile.specs.Links.{links_at, numbered}
use Rattle.plan_weekfile.specs.Weeks.{names_from}
use Rattle.plan_weekfile.proofs.links.week_links.Given as goal

-- the activities so far
abbrev pub invariant-loop-k : goal.invariant-loop-k
invariant-loop-k l =
    map links_of l.links.items
    ≡ map (links_at (names_from 1 l.listed.table.resources) (map name_of l.ids)
    (map numbered l.listed.week.arcs.items) l.listed.week) (range_with_len 0 l.k)
