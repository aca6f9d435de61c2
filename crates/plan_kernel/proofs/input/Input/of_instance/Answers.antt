use Rattle.std.proofs.Common.{◌∙◌}
use Rattle.plan_kernel.proofs.InputLemmas.{same_problem}
use Rattle.plan_kernel.proofs.PlanLemmas.{plain_from}
use Rattle.plan_kernel.proofs.input.Input.of_instance.Goals as goal

pub returns-clause-problem : goal.returns-clause-problem
returns-clause-problem c =
    plain_from _ _
    (same_problem _ c.args.instance.now c.in_ok-durations_of.ensures c.in_ok-arcs_of.ensures c.in_ok-needs_of.ensures
    (c.in_ok-from_slice.ensures.items ∙ c.caps.ensures))
    c.new.ensures.items c.new-2.ensures.items c.new-3.ensures.items
