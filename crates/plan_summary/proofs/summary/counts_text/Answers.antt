use Rattle.std.proofs.Common.{◌≡◌, IfOk, string_bytes, [], ◌∷◌, subst}
use Rattle.std.specs.Prelude.{codes, decimal}
use Rattle.plan_summary.proofs.LineLemmas.{turned}
use Rattle.plan_summary.proofs.summary.counts_text.Goals as goal

pub returns : goal.returns
returns c =
    subst (λ t. IfOk c.format.result (λ line. string_bytes line ≡ t))
    (turned (codes "desks ") (decimal c.args.summary.now.desks ∷ codes "\npublished "
    ∷ decimal c.args.summary.now.published ∷ codes "\nplans " ∷ decimal c.args.summary.now.plans
    ∷ codes "\nbinds " ∷ decimal c.args.summary.now.binds ∷ codes "\nlags "
    ∷ decimal c.args.summary.now.lags ∷ [])) c.format.ensures.ok
