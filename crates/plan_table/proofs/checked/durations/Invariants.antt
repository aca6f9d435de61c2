use Rattle.std.proofs.Common.{◌≡◌, map, take}
use Rattle.plan_table.specs.Jobs.{durations_of, job_in}
use Rattle.plan_table.proofs.checked.durations.Given as goal

-- the durations so far
abbrev pub invariant-loop-job : goal.invariant-loop-job
invariant-loop-job l = l.durations.items ≡ durations_of (map job_in (take l.job-index l.jobs))
