use Rattle.std.proofs.Common.{◌≡◌, Ok, Err}
use Rattle.plan_serve.proofs.InitLemmas.{has_made}
use Rattle.plan_serve.proofs.commands.init_at.Goals as goal

pub returns-in-Ok-clause-made : goal.returns-in-Ok-clause-made
returns-in-Ok-clause-made g c =
    let new = c.init_run.new.place in
    let old = c.args.place.now in
    has_made g.P.Kept.Store (λ conn. g.P.Place.connects old new (Ok conn)) (λ cause. g.P.Place.connects old new (Err cause)) (new ≡ old)
    (g.R.Source.remaining c.args.reader.now) (g.R.Source.remaining c.init_run.new.reader)
    c.in-Ok.book c.in-Ok.ensures.inits
