use Rattle.std.proofs.Common.{◌≡◌, map, take}
use Rattle.plan_table.specs.Table.{activity_of}
use Rattle.plan_weeklist.proofs.week.needs_of.Given as goal

-- the needs so far
abbrev pub invariant-loop-activity : goal.invariant-loop-activity
invariant-loop-activity l =
    map (λ needs. needs.items) l.needs.items ≡ map (λ a. a.needs) (map activity_of (take l.activity-index l.activities))
