use Rattle.std.proofs.Common.{sym}
use Rattle.std.proofs.lemmas.Result.{err_from_is_err_and, on_ok_weaker}
use Rattle.plan_errors.specs.declared.context.About.TheVariants as about
use Rattle.plan_cli.specs.Tasks.{bytes_named}
use Rattle.plan_cli.proofs.InputLemmas.{task_named, task_unopened, named_standard, named_file}
use Rattle.plan_cli.proofs.files.run_on_named.Goals as goal

pub returns-then-eq-clause-does : goal.returns-then-eq-clause-does
returns-then-eq-clause-does g c =
    let standard = g.I.Inputs.standard_bytes c.args.inputs.now in
    let file_of = g.I.Inputs.file_bytes c.args.inputs.now in
    task_named c.args.task c.args.rows standard (bytes_named standard file_of c.args.path.now) _ _ (g.W.Sink.taken c.args.writer.now) (g.W.Sink.taken c.run_task.new.writer) c.run_task.result
    (named_standard standard file_of c.args.path.now (sym c.if-eq.ensures)) c.standard-reader.ensures c.run_task.ensures.front

pub returns-clause-does : goal.returns-clause-does
returns-clause-does g c =
    let standard = g.I.Inputs.standard_bytes c.args.inputs.now in
    let file_of = g.I.Inputs.file_bytes c.args.inputs.now in
    let named = bytes_named standard file_of c.args.path.now in
    task_named c.args.task c.args.rows (file_of c.args.path.now) named _ _ (g.W.Sink.taken c.args.writer.now) (g.W.Sink.taken c.run_task-2.new.writer) c.run_task-2.result
    (named_file standard file_of c.args.path.now (sym c.if-eq.ensures)) c.in_ok-reader.ensures.opened c.run_task-2.ensures.front

pub returns-in_err-reader-clause-does : goal.returns-in_err-reader-clause-does
returns-in_err-reader-clause-does g c =
    let standard = g.I.Inputs.standard_bytes c.args.inputs.now in
    let file_of = g.I.Inputs.file_bytes c.args.inputs.now in
    let error = err_from_is_err_and c.from_residual.result c.from_residual.ensures.1 in
    rw (error.1, error.2) (task_unopened c.args.task c.args.rows about.Plan (bytes_named standard file_of c.args.path.now) (g.W.Sink.taken c.args.writer.now) c.in_err-reader.field-0.0 c.in_err-reader.ensures.refused)

pub returns-then-eq-clause-writes : goal.returns-then-eq-clause-writes
returns-then-eq-clause-writes g c = c.run_task.ensures.writes

pub returns-then-eq-clause-quiet : goal.returns-then-eq-clause-quiet
returns-then-eq-clause-quiet g c = c.run_task.ensures.quiet

pub returns-then-eq-clause-output : goal.returns-then-eq-clause-output
returns-then-eq-clause-output g c = c.run_task.ensures.output

pub returns-then-eq-clause-fine : goal.returns-then-eq-clause-fine
returns-then-eq-clause-fine g c = on_ok_weaker c.run_task.result (λ both. both.1) c.run_task.ensures.fine

pub returns-clause-writes : goal.returns-clause-writes
returns-clause-writes g c = c.run_task-2.ensures.writes

pub returns-clause-quiet : goal.returns-clause-quiet
returns-clause-quiet g c = c.run_task-2.ensures.quiet

pub returns-clause-output : goal.returns-clause-output
returns-clause-output g c = c.run_task-2.ensures.output

pub returns-clause-fine : goal.returns-clause-fine
returns-clause-fine g c = on_ok_weaker c.run_task-2.result (λ both. both.1) c.run_task-2.ensures.fine

pub returns-then-eq-clause-unread : goal.returns-then-eq-clause-unread
returns-then-eq-clause-unread g c = c.run_task.ensures.unread

pub returns-clause-unread : goal.returns-clause-unread
returns-clause-unread g c = c.run_task-2.ensures.unread
