use Rattle.std.proofs.Common.{◌≡◌, map}
use Rattle.std.proofs.lemmas.Result.{err_from_is_err_and}
use Rattle.plan_table.specs.Names.{name_of}
use Rattle.plan_documents.specs.Plans.{resources_in}
use Rattle.plan_documents.proofs.DocumentLemmas.{unknown_document}
use Rattle.plan_documents.proofs.documents.project_document.Goals as goal

pub returns-in_err-capacities-clause-refused : goal.returns-in_err-capacities-clause-refused
returns-in_err-capacities-clause-refused c =
    let error = err_from_is_err_and c.from_residual-in_err-capacities.result c.from_residual-in_err-capacities.ensures.1 in
    let named : map name_of c.deref.result.now ≡ resources_in c.args.file.now = rw c.deref.ensures.value c.in_ok-names.ensures in
    rw (error.1, error.2) (unknown_document c.args.given c.args.file.now (map name_of c.deref.result.now) c.in_ok-project.project c.avail.result.now c.in_err-capacities.field-0.0
    c.in_ok-project.ensures.said named c.avail.ensures c.in_err-capacities.ensures.refused)
