use Rattle.std.proofs.Common.{◌≡◌, inr, refl}
use Rattle.std.proofs.lemmas.Result.{err_from_is_err_and}
use Rattle.plan_documents.specs.ListOptions.{text_in}
use Rattle.plan_cli.proofs.ListTextLemmas.{list_refused}
use Rattle.plan_cli.proofs.list_texts.check_list.Goals as goal

pub returns-in_err-read : goal.returns-in_err-read
returns-in_err-read c =
    let a = c.args in
    let error = err_from_is_err_and c.from_residual-in_err-read.result c.from_residual-in_err-read.ensures.1 in
    rw (error.1, error.2) (list_refused a.options a.subject a.file.now (text_in c.in_ok-prepared.prepared.list a.file.now) c.text.result.now
    c.in_err-read.field-0.0 c.text.ensures c.in_ok-prepared.ensures.text c.in_err-read.ensures.refused)
