use Rattle.std.proofs.Common.{refl}
use Rattle.plan_cli.specs.BestProjectRun.{IsBestProjectTableOf, TellsWhyNoBestProject}
use Rattle.plan_cli.specs.Tasks.{ShowsRead, RefusesRead}
use Rattle.plan_cli.specs.declared.tasks.Rows.TheVariants as rows
use Rattle.plan_cli.proofs.PlanLemmas.{best_texts, best_lines}
use Rattle.plan_cli.proofs.RunLemmas.{front_as, text_as}
use Rattle.plan_cli.proofs.runs.best_project_run.Goals as goal

pub returns : goal.returns
returns g c =
    let name = c.args.budget.now in
    let t = c.best_task.result in
    let is = c.best_task.ensures in
    let e = c.run_task.ensures in
    record {
      reads = e.reads;
      writes = e.writes;
      text = text_as (ShowsRead rows.Plain t) (IsBestProjectTableOf name) (RefusesRead t) (TellsWhyNoBestProject name) _ _ _ _ (best_texts t _ _ is refl) (best_lines t _ _ is refl) e.text;
      front = front_as (ShowsRead rows.Plain t) (IsBestProjectTableOf name) (RefusesRead t) (TellsWhyNoBestProject name) _ _ _ _ _ (best_texts t _ _ is refl) (best_lines t _ _ is refl) e.front;
      quiet = e.quiet;
      fine = e.fine;
      heard = e.heard;
      unread = e.unread;
      input = e.input;
      output = e.output;
    }
