use Rattle.std.proofs.Common.{Some, sym, subst}
use Rattle.plan_cli.specs.PreparedTasks.{RefusesPrepared, ShowsPrepared}
use Rattle.plan_cli.proofs.RunLemmas.{sent_writes}
use Rattle.plan_cli.proofs.prepared_tasks.answer_prepared.Goals as goal

pub returns-clause-does : goal.returns-clause-does
returns-clause-does g c =
    let made = subst (ShowsPrepared (Some c.args.options) c.args.rows c.args.task c.args.file.now) (sym c.deref.ensures.value) c.in_ok-text.ensures.made in
    sent_writes (ShowsPrepared (Some c.args.options) c.args.rows c.args.task c.args.file.now)
    (RefusesPrepared (Some c.args.options) c.args.task c.args.file.now)
    c.deref.result.now (g.W.Sink.taken c.args.writer.now) (g.W.Sink.taken c.write_text.new.writer) c.write_text.result made c.write_text.ensures.sent
