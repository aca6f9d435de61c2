use Rattle.std.proofs.Common.{◌≡◌, take}
use Rattle.std.specs.List.{sum_by}
use Rattle.plan_table.proofs.sm.horizon.Given as goal

-- the durations so far
abbrev pub invariant-loop-activity : goal.invariant-loop-activity
invariant-loop-activity l = l.horizon ≡ sum_by (λ a. a.duration) (take l.activity-index l.activities)
