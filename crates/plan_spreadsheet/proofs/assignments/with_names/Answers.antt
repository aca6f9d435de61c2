use Rattle.std.proofs.Common.{arith, map, ◌∙◌}
use Rattle.plan_spreadsheet.proofs.AssignmentLemmas.{next_names}
use Rattle.plan_spreadsheet.proofs.assignments.with_names.Goals as goal

pub loop-part-preserved : goal.loop-part-preserved
loop-part-preserved c =
    next_names c.loop-part.part-index c.args.parts.now c.part-item.result (map (λ name. name.items) c.loop-part.all.items)
    (map (λ name. name.items) c.push_name.new.names.items) c.name_of-name.result.now c.deref.result.now
    (omega (arith, c.loop-part-test.true)) c.part-item.is c.deref.ensures.value c.name_of-name.ensures c.in_ok-push_name.ensures
    ∙ c.loop-part.invariant
