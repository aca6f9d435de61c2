use Rattle.std.proofs.Common.{length, ap, ◌∙◌}
use Rattle.plan_desk.proofs.PlaceLemmas.{length-capacities_in}
use Rattle.plan_desk.proofs.pages.scheduled.of_project.Goals as goal

pub project_schedule-requires : goal.project_schedule-requires
project_schedule-requires c =
    ap length c.deref-2.ensures.value ∙ ap length c.in_ok-caps.ensures ∙ length-capacities_in c.deref.result.now 1 c.avail.result.now
    ∙ ap length c.avail.ensures
