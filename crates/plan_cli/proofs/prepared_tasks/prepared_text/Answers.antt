use Rattle.std.proofs.Common.{Some, map}
use Rattle.std.proofs.lemmas.Result.{err_from_is_err_and}
use Rattle.plan_table.specs.Overrides.{override_of}
use Rattle.plan_documents.specs.ListOptions.{text_in}
use Rattle.plan_cli.specs.PreparedTasks.{list_given}
use Rattle.plan_cli.specs.Tasks.{RefusesRead, ShowsRead}
use Rattle.plan_cli.proofs.PreparedLemmas.{read_prepared, refuse_prepared, refuse_unprepared}
use Rattle.plan_cli.proofs.prepared_tasks.prepared_text.Goals as goal

pub returns-clause-made : goal.returns-clause-made
returns-clause-made g c =
    let a = c.args in
    read_prepared (Some a.options) (map override_of c.list_given-given.result.now) (list_given a.task) a.file.now
    (text_in c.in_ok-list.list.list a.file.now) c.text.result.now (λ list. ShowsRead a.rows a.task list c.in_ok-text.text.items)
    c.list_given-given.ensures c.text.ensures c.in_ok-list.ensures.text c.in_ok-text.ensures.made

pub returns-in_err-list-clause-refused : goal.returns-in_err-list-clause-refused
returns-in_err-list-clause-refused g c =
    let a = c.args in
    let error = err_from_is_err_and c.from_residual.result c.from_residual.ensures.1 in
    rw (error.1, error.2) (refuse_unprepared (Some a.options) (map override_of c.list_given-given.result.now) (list_given a.task) a.file.now
    (RefusesRead a.task) c.in_err-list.field-0.0 c.list_given-given.ensures c.in_err-list.ensures.refused)

pub returns-in_err-text-clause-refused : goal.returns-in_err-text-clause-refused
returns-in_err-text-clause-refused g c =
    let a = c.args in
    let error = err_from_is_err_and c.from_residual-in_err-text.result c.from_residual-in_err-text.ensures.1 in
    rw (error.1, error.2) (refuse_prepared (Some a.options) (map override_of c.list_given-given.result.now) (list_given a.task) a.file.now
    (text_in c.in_ok-list.list.list a.file.now) c.text.result.now (RefusesRead a.task) c.in_err-text.field-0.0
    c.list_given-given.ensures c.text.ensures c.in_ok-list.ensures.text c.in_err-text.ensures.refused)
