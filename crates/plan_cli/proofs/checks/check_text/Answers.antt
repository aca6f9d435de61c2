use Rattle.std.proofs.lemmas.Result.{err_from_is_err_and}
use Rattle.plan_cli.specs.CheckRun.{IsVerdictOn}
use Rattle.plan_documents.specs.Documents.{IsOfSubject}
use Rattle.plan_documents.specs.Lists.{text_of}
use Rattle.plan_cli.specs.Tasks.{IsLineOf}
use Rattle.plan_cli.specs.declared.checks.Checked.{Checked}
use Rattle.plan_cli.specs.declared.tasks.Task.TheVariants as task
use Rattle.plan_documents.proofs.ListLemmas.{read_as, reading_refused}
use Rattle.plan_cli.proofs.ListTaskLemmas.{shown_as, refused_as}
use Rattle.plan_cli.proofs.checks.check_text.Goals as goal
use Rattle.std.proofs.Common.{refl}

pub returns-clause-text : goal.returns-clause-text
returns-clause-text c =
    let a = c.args in
    let read = c.in_ok-read.read in
    let bytes = c.text.result.now in
    let t = task.Check a.starts read.subject in
    shown_as (λ (checked : Checked). checked.text.items) a.subject a.file.now (task.Check a.starts a.subject) t a.rows
    read.kind read.subject (text_of read.made a.file.now) bytes c.kind_checked.result c.in_ok-read.ensures.read refl c.text.ensures
    c.kind_checked.ensures.text

pub returns-clause-verdict : goal.returns-clause-verdict
returns-clause-verdict c =
    let a = c.args in
    let read = c.in_ok-read.read in
    read_as (λ kind s bytes (checked : Checked). IsOfSubject s (IsVerdictOn a.starts.now) bytes checked.verdict) a.subject a.file.now
    read.kind read.subject (text_of read.made a.file.now) c.text.result.now c.kind_checked.result c.in_ok-read.ensures.read c.text.ensures
    c.kind_checked.ensures.verdict

pub returns-clause-refused : goal.returns-clause-refused
returns-clause-refused c =
    let a = c.args in
    let read = c.in_ok-read.read in
    refused_as a.subject a.file.now (task.Check a.starts a.subject) (task.Check a.starts read.subject) read.kind read.subject (text_of read.made a.file.now)
    c.text.result.now c.kind_checked.result c.in_ok-read.ensures.read refl c.text.ensures c.kind_checked.ensures.refused

pub returns-in_err-read-clause-refused : goal.returns-in_err-read-clause-refused
returns-in_err-read-clause-refused c =
    let a = c.args in
    let error = err_from_is_err_and c.from_residual.result c.from_residual.ensures.1 in
    rw (error.1, error.2) (reading_refused a.subject a.file.now (λ s read. IsLineOf (task.Check a.starts s) read)
    c.in_err-read.field-0.0 c.in_err-read.ensures.refused)
