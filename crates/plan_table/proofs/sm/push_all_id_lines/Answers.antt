use Rattle.std.proofs.Common.{arith}
use Rattle.plan_table.specs.Table.{activity_of}
use Rattle.plan_table.specs.ProjectText.{id_line}
use Rattle.plan_table.proofs.NumberedLemmas.{next_line}
use Rattle.plan_table.proofs.sm.push_all_id_lines.Goals as goal

pub loop-k-preserved : goal.loop-k-preserved
loop-k-preserved c =
    next_line id_line activity_of 2 c.args.activities.now c.loop-k.k c.index-activities-k.result _ _ _
    (omega arith) c.index-activities-k.is c.loop-k.invariant c.in_ok-push_id_line.ensures
