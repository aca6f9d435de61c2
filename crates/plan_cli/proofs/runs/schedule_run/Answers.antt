use Rattle.std.proofs.Common.{refl}
use Rattle.plan_documents.specs.ScheduleRun.{IsScheduleTableOf, TellsWhyNoSchedule}
use Rattle.plan_cli.specs.Tasks.{ShowsRead, RefusesRead}
use Rattle.plan_cli.specs.declared.tasks.Rows.TheVariants as rows
use Rattle.plan_cli.proofs.PlanLemmas.{schedule_texts, schedule_lines}
use Rattle.plan_cli.proofs.RunLemmas.{front_as, text_as}
use Rattle.plan_cli.proofs.runs.schedule_run.Goals as goal

pub returns : goal.returns
returns g c =
    let name = c.args.rule.now in
    let t = c.schedule_task.result in
    let is = c.schedule_task.ensures in
    let e = c.run_task.ensures in
    record {
      reads = e.reads;
      writes = e.writes;
      text = text_as (ShowsRead rows.Plain t) (IsScheduleTableOf name) (RefusesRead t) (TellsWhyNoSchedule name) _ _ _ _ (schedule_texts t _ _ is refl) (schedule_lines t _ _ is refl) e.text;
      front = front_as (ShowsRead rows.Plain t) (IsScheduleTableOf name) (RefusesRead t) (TellsWhyNoSchedule name) _ _ _ _ _ (schedule_texts t _ _ is refl) (schedule_lines t _ _ is refl) e.front;
      quiet = e.quiet;
      fine = e.fine;
      heard = e.heard;
      unread = e.unread;
      input = e.input;
      output = e.output;
    }
