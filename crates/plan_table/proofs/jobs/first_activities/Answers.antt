use Rattle.std.proofs.Common.{◌==◌, length, ap, ◌∙◌, arith}
use Rattle.plan_table.specs.Jobs.{is_first}
use Rattle.plan_table.proofs.JobLemmas.{next_number}
use Rattle.plan_table.proofs.jobs.first_activities.Goals as goal

pub loop-k-preserved : goal.loop-k-preserved
loop-k-preserved c =
    next_number is_first c.args.activities.now c.loop-k.k c.index-activities-k.result c.is_empty-passes.result _ _
    (omega arith) c.index-activities-k.is (c.is_empty-passes.ensures ∙ ap (λ xs. length xs == 0) c.as_slice.ensures.value)
    c.loop-k.invariant c.in_ok-push_if.ensures
