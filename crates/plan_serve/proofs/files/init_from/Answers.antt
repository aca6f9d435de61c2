use Rattle.std.proofs.Common.{◌≡◌, refl, sym, subst}
use Rattle.std.specs.Prelude.{IsTrue}
use Rattle.sqlite.specs.Files.{over_files}
use Rattle.plan_serve.specs.InitRun.{IsInitFault, IsOfTablesThere}
use Rattle.plan_serve.proofs.ResultLemmas.{inits_at_name}
use Rattle.plan_serve.proofs.CauseLemmas.{told_ok, told_err, file_inits, file_tables_there}
use Rattle.plan_serve.proofs.files.init_from.Goals as goal

pub returns-clause-made : goal.returns-clause-made
returns-clause-made g c =
    told_ok c.init_file-done.result.0 c.init_file-done.result.0 c.with_cause.result refl c.with_cause.ensures.told _ c.init_file-done.ensures.made

pub returns-clause-which : goal.returns-clause-which
returns-clause-which g c =
    told_err c.init_file-done.result.0 c.init_file-done.result.0 c.with_cause.result refl c.with_cause.ensures.told IsInitFault c.init_file-done.ensures.which (λ e was files. file_inits e files)

pub returns-clause-tables : goal.returns-clause-tables
returns-clause-tables g c =
    told_err c.init_file-done.result.0 c.init_file-done.result.0 c.with_cause.result refl c.with_cause.ensures.told (IsOfTablesThere g.F.Start over_files)
    c.init_file-done.ensures.tables (λ e was files. file_tables_there g.F.Start over_files e files)

pub returns-clause-inits : goal.returns-clause-inits
returns-clause-inits g c =
    inits_at_name g.F.Start c.in_file-place.result.opens.calls c.init_file-done.new.place.opens.calls (c.init_file-done.new.place ≡ c.in_file-place.result)
    (g.R.Source.remaining c.args.reader.now) (g.R.Source.remaining c.init_file-done.new.reader)
    c.init_file-done.result.0 c.with_cause.result c.init_file-done.result.1
    c.init_file-done.ensures.inits c.with_cause.ensures.told (λ has. c.with_cause.ensures.same (subst IsTrue (sym c.is_some.ensures) has))
