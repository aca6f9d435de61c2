use Rattle.std.proofs.lemmas.Result.{err_from_is_err_and}
use Rattle.plan_documents.proofs.ListLemmas.{readable_is, readable_refused, unread}
use Rattle.plan_documents.proofs.lists.readable.Goals as goal

pub returns-clause-read : goal.returns-clause-read
returns-clause-read c =
    readable_is c.args.subject c.args.file.now c.utf8-list.result.now c.in_ok-kind.kind c.read_by.result
    (c.in_ok-plain.plain, c.in_ok-plain.ensures.plain, c.utf8-list.ensures) c.in_ok-kind.ensures.kind c.read_by.ensures.kind c.read_by.ensures.read

pub returns-clause-refused : goal.returns-clause-refused
returns-clause-refused c =
    readable_refused c.args.subject c.args.file.now c.utf8-list.result.now c.in_ok-kind.kind c.read_by.result
    (c.in_ok-plain.plain, c.in_ok-plain.ensures.plain, c.utf8-list.ensures) c.in_ok-kind.ensures.kind c.read_by.ensures.refused

pub returns-in_err-plain-clause-refused : goal.returns-in_err-plain-clause-refused
returns-in_err-plain-clause-refused c =
    let error = err_from_is_err_and c.from_residual.result c.from_residual.ensures.1 in
    rw (error.1, error.2) (unread c.args.subject c.args.file.now c.in_err-plain.field-0.0 c.in_err-plain.ensures.refused)
