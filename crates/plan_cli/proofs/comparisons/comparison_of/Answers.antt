use Rattle.std.proofs.lemmas.Result.{err_from_is_err_and}
use Rattle.plan_documents.specs.Documents.{sheet_of}
use Rattle.plan_cli.proofs.CompareLemmas.{no_first, no_second}
use Rattle.plan_cli.proofs.comparisons.comparison_of.Goals as goal

pub returns-in_err-a-clause-refused : goal.returns-in_err-a-clause-refused
returns-in_err-a-clause-refused c =
    let first = c.args.pair.a.now in
    let second = c.args.pair.b.now in
    let e = c.in_err-a.field-0.0 in
    let error = err_from_is_err_and c.from_residual.result c.from_residual.ensures.1 in
    rw (error.1, error.2) (no_first (sheet_of c.args.plan.now) first second e c.in_err-a.ensures.refused)

pub returns-in_err-b-clause-refused : goal.returns-in_err-b-clause-refused
returns-in_err-b-clause-refused c =
    let first = c.args.pair.a.now in
    let second = c.args.pair.b.now in
    let e = c.in_err-b.field-0.0 in
    let error = err_from_is_err_and c.from_residual-in_err-b.result c.from_residual-in_err-b.ensures.1 in
    rw (error.1, error.2) (no_second (sheet_of c.args.plan.now) first second c.in_ok-a.a.items e c.in_ok-a.ensures.said c.in_err-b.ensures.refused)
