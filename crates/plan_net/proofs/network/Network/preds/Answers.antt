use Rattle.std.proofs.Common.{subst}
use Rattle.plan_net.specs.Network.{Net, IsArc, ListsRising}
use Rattle.plan_net.proofs.network.Network.preds.Goals as goal

pub returns-clause-exact : goal.returns-clause-exact
returns-clause-exact c =
    subst (λ (net : Net). ListsRising (λ i. IsArc net i c.args.j) c.preds.result.now) c.self.view_is c.preds.ensures.exact
