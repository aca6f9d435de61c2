use Rattle.std.proofs.Common.{arith}
use Rattle.plan_table.specs.Table.{resource_of}
use Rattle.plan_table.specs.ProjectText.{resource_line}
use Rattle.plan_table.proofs.NumberedLemmas.{next_line}
use Rattle.plan_table.proofs.sm.push_resource_lines.Goals as goal

pub loop-k-preserved : goal.loop-k-preserved
loop-k-preserved c =
    next_line resource_line resource_of 1 c.args.resources.now c.loop-k.k c.index-resources-k.result _ _ _
    (omega arith) c.index-resources-k.is c.loop-k.invariant c.in_ok-push_resource_line.ensures
