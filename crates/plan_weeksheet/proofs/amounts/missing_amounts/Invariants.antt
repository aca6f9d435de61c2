use Rattle.std.proofs.Common.{◌≡◌, map}
use Rattle.std.specs.List.{range_with_len}
use Rattle.plan_weeksheet.specs.WeekRectangles.{missing_amount}
use Rattle.plan_weeksheet.proofs.amounts.missing_amounts.Given as goal

-- the amounts so far
abbrev pub invariant-loop-k : goal.invariant-loop-k
invariant-loop-k l = l.list.items ≡ map (missing_amount l.absence) (range_with_len 0 l.k)
