use Rattle.plan_cli.proofs.ScheduledLemmas.{fits_early}
use Rattle.plan_cli.proofs.solver.solved_project.Goals as goal

pub returns-in-Ok : goal.returns-in-Ok
returns-in-Ok g c =
    let e = c.in-Ok.ensures.solved in
    record {
      active = e.active;
      makespan = e.makespan;
      bound = e.lower;
      below = e.below;
      shortest = e.optimal;
      fits = fits_early c.args.instance.now c.in-Ok.solved.schedule e.active e.in_time e.makespan;
    }
