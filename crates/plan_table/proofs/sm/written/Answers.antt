use Rattle.std.proofs.Common.{List, ◌≤◌, length, map, sym, subst}
use Rattle.std.specs.Prelude.{All}
use Rattle.plan_table.specs.declared.table.Activity as declared
use Rattle.plan_table.specs.declared.jobs.Job as declared_job
use Rattle.plan_table.specs.Table.{activity_of}
use Rattle.plan_table.proofs.JobLemmas.{kept_jobs_short}
use Rattle.plan_table.proofs.sm.written.Goals as goal

pub push_sections-requires-clause-rows : goal.push_sections-requires-clause-rows
push_sections-requires-clause-rows c =
    let few = subst (λ (xs : List declared.Activity). length (map activity_of xs) ≤ 500) (sym c.deref-2.ensures.value) c.table.invariant.limits.rows in
    let short = kept_jobs_short c.in_ok-jobs.jobs.items (map activity_of c.deref-2.result.now) c.len.result c.in_ok-jobs.ensures few in
    subst (λ (xs : List declared_job.Job). All (λ (job : declared_job.Job). length job.successors.items ≤ 502) xs) (sym c.deref-4.ensures.value) short.1
