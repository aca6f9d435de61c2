use Rattle.std.proofs.Common.{◌≡◌, map, take}
use Rattle.plan_table.specs.Table.{activity_of}
use Rattle.plan_weeksheet.specs.Drawn.{row_of}
use Rattle.plan_weeksheet.specs.Rectangles.{rectangle_of}
use Rattle.plan_weeksheet.proofs.drawn.rows_of.Given as goal

-- the rows so far
abbrev pub invariant-loop-rectangle : goal.invariant-loop-rectangle
invariant-loop-rectangle l =
    map activity_of l.rows.items ≡ map (row_of l.capacities) (map rectangle_of (take l.rectangle-index l.rectangles))
