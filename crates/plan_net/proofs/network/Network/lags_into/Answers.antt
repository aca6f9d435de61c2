use Rattle.std.proofs.Common.{ℕ, ◌≡◌, List, map, subst}
use Rattle.plan_net.specs.Network.{Net, IsArc, ListsRising, lag_of}
use Rattle.plan_net.proofs.network.Network.lags_into.Goals as goal

pub returns-clause-value : goal.returns-clause-value
returns-clause-value c =
    subst (λ (net : Net). (row : List ℕ) → ListsRising (λ i. IsArc net i c.args.j) row → c.lags_into.result.now ≡ map (λ i. lag_of net i c.args.j) row) c.self.view_is
    c.lags_into.ensures.value
