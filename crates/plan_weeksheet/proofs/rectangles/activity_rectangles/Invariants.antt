use Rattle.std.proofs.Common.{◌≡◌, flat_map, map}
use Rattle.std.specs.List.{range_with_len}
use Rattle.plan_views.specs.LinkColumns.{links_of}
use Rattle.plan_weeksheet.specs.Rectangles.{rectangle_of}
use Rattle.plan_weeksheet.specs.WeekRectangles.{activity_rectangle}
use Rattle.plan_weeksheet.proofs.rectangles.activity_rectangles.Given as goal

-- those of the activities so far
abbrev pub invariant-loop-k : goal.invariant-loop-k
invariant-loop-k l =
    map rectangle_of l.rectangles.items
    ≡ flat_map (activity_rectangle l.listed (map links_of l.links) l.starts) (range_with_len 0 l.k)
