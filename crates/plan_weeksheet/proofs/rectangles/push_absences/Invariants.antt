use Rattle.std.proofs.Common.{◌≡◌, ◌++◌, flat_map, map, take}
use Rattle.plan_weeksheet.specs.Rectangles.{rectangle_of}
use Rattle.plan_weeksheet.specs.WeekRectangles.{absence_rectangle}
use Rattle.plan_weeksheet.proofs.rectangles.push_absences.Given as goal

-- those of the absences so far, behind the earlier ones
abbrev pub invariant-loop-absence : goal.invariant-loop-absence
invariant-loop-absence l =
    map rectangle_of l.rectangles.items
    ≡ map rectangle_of l.fn.rectangles.items
    ++ flat_map (absence_rectangle l.count l.makespan) (take l.absence-index l.listed.week.absences.items)
