use Rattle.std.proofs.Common.{refl, sym, subst}
use Rattle.std.specs.Prelude.{IsTrue, IsErrOf}
use Rattle.sqlite.specs.Files.{over_files}
use Rattle.plan_store.specs.SqlBooks.{sql_shelf}
use Rattle.plan_door.specs.declared.fault.ServeFault.TheVariants as fault
use Rattle.plan_door.specs.Ports.{TakesTurns}
use Rattle.plan_serve.specs.Causes.{IsOfTables, IsServeFault}
use Rattle.plan_serve.proofs.ResultLemmas.{at_name}
use Rattle.plan_serve.proofs.CauseLemmas.{if_ok, told_ok, told_err, file_serves, file_tables, at_look}
use Rattle.plan_serve.proofs.files.serve_from.Goals as goal

pub returns-clause-served : goal.returns-clause-served
returns-clause-served g c =
    told_ok c.serve_file-done.result.0 c.serve_file-done.result.0 c.with_cause.result refl c.with_cause.ensures.told _ c.serve_file-done.ensures.served

pub returns-clause-which : goal.returns-clause-which
returns-clause-which g c =
    told_err c.serve_file-done.result.0 c.serve_file-done.result.0 c.with_cause.result refl c.with_cause.ensures.told IsServeFault
    c.serve_file-done.ensures.which (λ e was files. file_serves e files)

pub returns-clause-tables : goal.returns-clause-tables
returns-clause-tables g c =
    told_err c.serve_file-done.result.0 c.serve_file-done.result.0 c.with_cause.result refl c.with_cause.ensures.told (IsOfTables g.F.Start over_files c.args.looked)
    (at_look g.F.Start over_files c.args.looked c.serve_file-done.result.0 c.serve_file-done.ensures.tables)
    (λ e was files. file_tables g.F.Start over_files c.args.looked e files)

pub returns-clause-there : goal.returns-clause-there
returns-clause-there g c =
    told_ok c.serve_file-done.result.0 c.serve_file-done.result.0 c.with_cause.result refl c.with_cause.ensures.told _ (if_ok c.serve_file-done.result.0 c.in_default.ensures.there)

pub returns-clause-works : goal.returns-clause-works
returns-clause-works g c =
    at_name g.F.Start c.args.looked
    (λ done old new. TakesTurns (sql_shelf over_files) old new c.args.service.now.count done)
    (λ done. IsErrOf done fault.Memory) c.serve_file-done.result.0 c.with_cause.result c.serve_file-done.result.1 c.in_default.ensures.there
    c.serve_file-done.ensures.works c.with_cause.ensures.told (λ has. c.with_cause.ensures.same (subst IsTrue (sym c.is_some.ensures) has))
