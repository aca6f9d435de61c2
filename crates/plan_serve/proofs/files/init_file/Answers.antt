use Rattle.std.proofs.Common.{◌≡◌, sym, subst}
use Rattle.sqlite.specs.Files.{over_files}
use Rattle.plan_serve.specs.InitRun.{IsOpenedOnce, IsRefusedOnce, IsInitFault, IsOfTablesThere}
use Rattle.plan_serve.specs.Returned.{InitsOnce}
use Rattle.plan_serve.proofs.CauseLemmas.{same_ok, same_err}
use Rattle.plan_serve.proofs.InitLemmas.{makes_office, made_once, told_once}
use Rattle.plan_serve.proofs.files.init_file.Goals as goal

pub returns-clause-inits : goal.returns-clause-inits
returns-clause-inits g c =
    let old = c.args.place.now.opens.calls in
    let new = c.init_at.new.place.opens.calls in
    subst (λ r. InitsOnce (IsOpenedOnce g.F.Start over_files old new) (IsRefusedOnce old new) (c.init_at.new.place ≡ c.args.place.now)
    (g.R.Source.remaining c.args.reader.now) (g.R.Source.remaining c.init_at.new.reader) r c.close.result.1) (sym c.close.ensures.same)
    (record {
      back = c.init_at.result.1;
      makes = makes_office over_files (IsOpenedOnce g.F.Start over_files old new) (IsRefusedOnce old new) (c.init_at.new.place ≡ c.args.place.now)
          (g.R.Source.remaining c.args.reader.now) (g.R.Source.remaining c.init_at.new.reader) c.init_at.result.0 c.init_at.result.1
          c.init_at.ensures.tied c.init_at.ensures.left;
      ends = c.close.ensures.ends;
    })

pub returns-clause-made : goal.returns-clause-made
returns-clause-made g c =
    same_ok c.close.result.0 c.init_at.result.0 c.close.ensures.same _
    (made_once g.F.Start over_files c.args.place.now.opens.calls c.init_at.new.place.opens.calls c.init_at.result.0 c.init_at.ensures.made)

pub returns-clause-which : goal.returns-clause-which
returns-clause-which g c = same_err c.close.result.0 c.init_at.result.0 c.close.ensures.same IsInitFault c.init_at.ensures.which

pub returns-clause-tables : goal.returns-clause-tables
returns-clause-tables g c =
    same_err c.close.result.0 c.init_at.result.0 c.close.ensures.same (IsOfTablesThere g.F.Start over_files)
    (told_once g.F.Start over_files c.args.place.now.opens.calls c.init_at.new.place.opens.calls c.init_at.result.0 c.init_at.ensures.tables)
