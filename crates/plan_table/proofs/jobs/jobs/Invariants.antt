use Rattle.std.proofs.Common.{◌≡◌, ◌∷◌, take, map}
use Rattle.plan_table.specs.Table.{activity_of}
use Rattle.plan_table.specs.Jobs.{job_in, dummy, numbers_where, is_first}
use Rattle.plan_table.proofs.JobLemmas.{jobs_so_far}
use Rattle.plan_table.proofs.jobs.jobs.Given as goal

-- behind the first dummy stand the jobs of the activities so far
abbrev pub invariant-loop-k : goal.invariant-loop-k
invariant-loop-k l = map job_in l.made.items
    ≡ dummy (numbers_where is_first (map activity_of l.activities)) l.resources ∷ jobs_so_far (map activity_of l.activities) (map activity_of (take l.k l.activities))
