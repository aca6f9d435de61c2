use Rattle.std.proofs.Common.{ℕ, Vec}
use Rattle.std.specs.Global.{Global}
use Rattle.std.proofs.lemmas.Result.{err_from_is_err_and}
use Rattle.plan_documents.specs.Lists.{text_of}
use Rattle.plan_cli.specs.Tasks.{IsLineOf, with_subject}
use Rattle.plan_documents.proofs.ListLemmas.{reading_refused}
use Rattle.plan_cli.proofs.ListTaskLemmas.{shown_as, refused_as}
use Rattle.plan_cli.proofs.tasks.listed_text.Goals as goal

pub returns-clause-made : goal.returns-clause-made
returns-clause-made g c =
    let a = c.args in
    let read = c.in_ok-read.read in
    shown_as (λ (text : Vec ℕ Global). text.items) a.of a.file.now a.task c.with_subject-task.result a.rows read.kind read.subject
    (text_of read.made a.file.now) c.text-text.result.now c.kind_text.result c.in_ok-read.ensures.read c.with_subject-task.ensures
    c.text-text.ensures c.kind_text.ensures.made

pub returns-clause-refused : goal.returns-clause-refused
returns-clause-refused g c =
    let a = c.args in
    let read = c.in_ok-read.read in
    refused_as a.of a.file.now a.task c.with_subject-task.result read.kind read.subject (text_of read.made a.file.now) c.text-text.result.now
    c.kind_text.result c.in_ok-read.ensures.read c.with_subject-task.ensures c.text-text.ensures c.kind_text.ensures.refused

pub returns-in_err-read-clause-refused : goal.returns-in_err-read-clause-refused
returns-in_err-read-clause-refused g c =
    let a = c.args in
    let error = err_from_is_err_and c.from_residual.result c.from_residual.ensures.1 in
    rw (error.1, error.2) (reading_refused a.of a.file.now (λ s read. IsLineOf (with_subject a.task s) read)
    c.in_err-read.field-0.0 c.in_err-read.ensures.refused)
