use Rattle.std.proofs.Common.{ℕ, ◌≤◌, ◌<◌, List, length, get_or, sym, ◌∙◌, subst}
use Rattle.plan_net.specs.declared.limits.TheConstants.{LONGEST_LAG}
use Rattle.plan_net.proofs.IndexLemmas.{lags_listed, lags_limited}
use Rattle.plan_net.proofs.arcs.Arcs.lags_into.Goals as goal

pub returns-clause-value : goal.returns-clause-value
returns-clause-value c row listed =
    c.as_slice.ensures.value ∙ lags_listed c.self.inside c.args.self.now c.args.j c.index.result.now c.self.invariant c.self.view_is c.requires c.index.ensures row listed

pub returns-clause-limit : goal.returns-clause-limit
returns-clause-limit c =
    subst (λ (lags : List ℕ). (k : ℕ) → k < length lags → get_or lags k 0 ≤ LONGEST_LAG) (sym c.as_slice.ensures.value)
    (lags_limited c.self.inside c.args.self.now c.args.j c.index.result.now c.self.invariant c.self.view_is c.requires c.index.ensures)
