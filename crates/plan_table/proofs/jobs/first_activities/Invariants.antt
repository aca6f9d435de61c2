use Rattle.std.proofs.Common.{◌≡◌, take, map}
use Rattle.plan_table.specs.Table.{activity_of}
use Rattle.plan_table.specs.Jobs.{numbers_where, is_first}
use Rattle.plan_table.proofs.jobs.first_activities.Given as goal

-- the numbers are those of the activities so far
abbrev pub invariant-loop-k : goal.invariant-loop-k
invariant-loop-k l = l.numbers.items ≡ numbers_where is_first (map activity_of (take l.k l.activities))
