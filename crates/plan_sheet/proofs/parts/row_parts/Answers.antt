use Rattle.plan_sheet.specs.Parts.{part_at}
use Rattle.plan_sheet.proofs.PartLemmas.{next_entries}
use Rattle.plan_sheet.proofs.parts.row_parts.Goals as goal

pub loop-k-preserved : goal.loop-k-preserved
loop-k-preserved c =
    next_entries (part_at c.args.row.now) c.loop-k.k _ _ c.loop-k.invariant c.in_ok-push_part_at.ensures
