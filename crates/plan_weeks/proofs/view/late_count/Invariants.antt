use Rattle.std.proofs.Common.{◌≡◌, ◌≤◌, length, map, filter, nat_lt}
use Rattle.std.specs.List.{range_with_len}
use Rattle.plan_week.specs.Tardiness.{tardiness_of}
use Rattle.plan_weeks.proofs.view.late_count.Given as goal

-- the late ones so far
abbrev pub invariant-loop-k : goal.invariant-loop-k
invariant-loop-k l =
    (l.count ≡ length (filter (nat_lt 0) (map (tardiness_of l.week l.starts) (range_with_len 0 l.k)))) × (l.count ≤ l.k)
