use Rattle.std.proofs.Common.{◌≡◌, drop, map}
use Rattle.std.specs.List.{list_all}
use Rattle.plan_weeksheet.specs.Drawn.{is_drawable}
use Rattle.plan_weeksheet.specs.Rectangles.{rectangle_of}
use Rattle.plan_weeksheet.proofs.limits.are_drawable.Given as goal

-- all are within the limits if all those that are left are
abbrev pub invariant-loop-rectangle : goal.invariant-loop-rectangle
invariant-loop-rectangle l =
    list_all is_drawable (map rectangle_of (drop l.rectangle-index l.rectangles))
    ≡ list_all is_drawable (map rectangle_of l.rectangles)
