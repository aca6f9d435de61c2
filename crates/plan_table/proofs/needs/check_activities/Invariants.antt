use Rattle.std.proofs.Common.{◌≡◌, map, drop}
use Rattle.plan_table.specs.Table.{activity_of, resource_of}
use Rattle.plan_table.specs.Needs.{activities_fit}
use Rattle.plan_table.proofs.needs.check_activities.Given as goal

-- the activities that are left decide
abbrev pub invariant-loop-activity : goal.invariant-loop-activity
invariant-loop-activity l = activities_fit (map resource_of l.resources) (map activity_of (drop l.activity-index l.activities))
    ≡ activities_fit (map resource_of l.resources) (map activity_of l.activities)
