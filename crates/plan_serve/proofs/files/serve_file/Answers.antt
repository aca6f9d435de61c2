use Rattle.std.proofs.Common.{sym, subst}
use Rattle.std.specs.Prelude.{IfErr, IsErrOf}
use Rattle.sqlite.specs.Files.{over_files}
use Rattle.plan_store.specs.SqlBooks.{sql_shelf}
use Rattle.plan_door.specs.declared.fault.ServeFault.TheVariants as fault
use Rattle.plan_door.specs.Ports.{IsPortFault, TakesTurns}
use Rattle.plan_serve.specs.Causes.{IsOfOpenedTables, IsServeFault}
use Rattle.plan_serve.specs.Returned.{WorksOnce}
use Rattle.plan_serve.proofs.CauseLemmas.{port_tables, opened_tables, each_look, same_err}
use Rattle.plan_serve.proofs.ServeLemmas.{serves_on_files, opened_serves}
use Rattle.plan_serve.proofs.ReturnedLemmas.{both_ways}
use Rattle.plan_serve.proofs.files.serve_file.Goals as goal

pub returns-clause-works : goal.returns-clause-works
returns-clause-works g c =
    subst (λ r. WorksOnce g.F.Start (λ book after. TakesTurns (sql_shelf over_files) book after c.args.service.now.count r)
    (IsErrOf r fault.Memory) r c.close.result.1) (sym c.close.ensures.same)
    (record {
      opened = c.open_from-opened.result;
      back = c.serve_opened.result.1;
      taken = both_ways c.open_from-opened.result _ _ c.open_from-opened.ensures.found c.open_from-opened.ensures.refused;
      does = c.serve_opened.ensures.tied;
      kept = c.serve_opened.ensures.back;
      ends = c.close.ensures.ends;
    })

pub returns-clause-served : goal.returns-clause-served
returns-clause-served g c =
    serves_on_files g.F.Start over_files c.args.service.now.count c.open_from-opened.result c.serve_opened.result.0 c.close.result.0
    c.close.ensures.same c.open_from-opened.ensures.found c.serve_opened.ensures.ok

pub returns-clause-which : goal.returns-clause-which
returns-clause-which g c =
    subst (λ r. IfErr r IsServeFault) (sym c.close.ensures.same)
    (opened_serves c.open_from-opened.result c.serve_opened.result.0 c.serve_opened.ensures.which)

pub returns-clause-tables : goal.returns-clause-tables
returns-clause-tables g c =
    same_err c.close.result.0 c.serve_opened.result.0 c.close.ensures.same (IsOfOpenedTables g.F.Start over_files)
    (each_look g.F.Start over_files c.serve_opened.result.0
    (λ looked. opened_tables g.F.Start over_files looked IsPortFault (port_tables g.F.Start over_files looked) c.open_from-opened.result c.serve_opened.result.0
    c.open_from-opened.ensures.refused c.serve_opened.ensures.which))
