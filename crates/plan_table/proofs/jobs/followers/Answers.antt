use Rattle.std.proofs.Common.{◌==◌, ap, ◌∙◌, arith}
use Rattle.std.specs.List.{list_any}
use Rattle.plan_table.specs.Jobs.{follows}
use Rattle.plan_table.proofs.JobLemmas.{next_number}
use Rattle.plan_table.proofs.jobs.followers.Goals as goal

pub loop-k-preserved : goal.loop-k-preserved
loop-k-preserved c =
    next_number (follows c.args.j) c.args.activities.now c.loop-k.k c.index-activities-k.result c.contains-passes.result _ _
    (omega arith) c.index-activities-k.is
    (c.contains-passes.ensures.value ∙ ap (λ xs. list_any (λ i. i == c.args.j) xs) c.as_slice.ensures.value)
    c.loop-k.invariant c.in_ok-push_if.ensures
