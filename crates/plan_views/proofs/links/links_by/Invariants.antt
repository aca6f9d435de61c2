use Rattle.std.proofs.Common.{◌≡◌, map}
use Rattle.std.specs.List.{range_with_len}
use Rattle.plan_table.specs.Names.{first_name, name_of}
use Rattle.plan_views.specs.LinkColumns.{links_if, links_of}
use Rattle.plan_views.proofs.links.links_by.Given as goal

-- the activities so far
abbrev pub invariant-loop-k : goal.invariant-loop-k
invariant-loop-k l =
    map links_of l.links.items
    ≡ map (λ j. links_if (first_name j (map name_of l.ids)) l.instance (map name_of l.resources) (map name_of l.words) j) (range_with_len 1 l.k)
