use Rattle.std.proofs.Common.{◌≡◌, ◌+◌, map, take}
use Rattle.std.specs.List.{sum_by}
use Rattle.plan_net.specs.Limits.{longest_sum}
use Rattle.plan_weeksheet.specs.Rectangles.{Rectangle, rectangle_of}
use Rattle.plan_weeksheet.proofs.limits.has_small_sum.Given as goal

-- the rest of the limit behind the durations so far
abbrev pub invariant-loop-rectangle : goal.invariant-loop-rectangle
invariant-loop-rectangle l =
    l.rest + sum_by (λ (r : Rectangle). r.lasts) (map rectangle_of (take l.rectangle-index l.rectangles))
    ≡ longest_sum
