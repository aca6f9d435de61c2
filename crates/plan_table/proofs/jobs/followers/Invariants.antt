use Rattle.std.proofs.Common.{◌≡◌, take, map}
use Rattle.plan_table.specs.Table.{activity_of}
use Rattle.plan_table.specs.Jobs.{numbers_where, follows}
use Rattle.plan_table.proofs.jobs.followers.Given as goal

-- the numbers are those of the activities so far
abbrev pub invariant-loop-k : goal.invariant-loop-k
invariant-loop-k l = l.numbers.items ≡ numbers_where (follows l.j) (map activity_of (take l.k l.activities))
