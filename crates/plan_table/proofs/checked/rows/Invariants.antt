use Rattle.std.proofs.Common.{◌≡◌, map, take}
use Rattle.plan_net.specs.Successors.{rows_in}
use Rattle.plan_table.specs.Jobs.{rows_of, job_in}
use Rattle.plan_table.proofs.checked.rows.Given as goal

-- the rows so far
abbrev pub invariant-loop-job : goal.invariant-loop-job
invariant-loop-job l = rows_in l.rows.items ≡ rows_of (map job_in (take l.job-index l.jobs))
