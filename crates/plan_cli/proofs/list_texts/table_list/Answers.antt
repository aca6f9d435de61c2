use Rattle.std.proofs.Common.{rules, ◌≡◌}
use Rattle.std.proofs.lemmas.Result.{err_from_is_err_and}
use Rattle.plan_table.specs.ProjectText.{project_text}
use Rattle.plan_cli.proofs.ListTextLemmas.{table_refused}
use Rattle.plan_cli.proofs.list_texts.table_list.Goals as goal

pub returns-in_err-times-clause-refused : goal.returns-in_err-times-clause-refused
returns-in_err-times-clause-refused g c =
    let a = c.args in
    let error = err_from_is_err_and c.from_residual.result c.from_residual.ensures.1 in
    let same : c.as_bytes-made.result.now ≡ project_text a.table.now = search rules in
    rw (error.1, error.2) (table_refused a.origin a.dates a.subject a.table.now (project_text a.table.now) c.as_bytes-made.result.now
    c.in_err-times.field-0.0 same c.in_err-times.ensures.refused)
