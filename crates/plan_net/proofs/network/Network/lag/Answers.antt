use Rattle.std.proofs.Common.{subst}
use Rattle.plan_net.specs.Network.{Net}
use Rattle.plan_net.specs.Limits.{HasGoodLags}
use Rattle.plan_net.proofs.LagLemmas.{lag_of-limit}
use Rattle.plan_net.proofs.network.Network.lag.Goals as goal

pub returns-clause-limit : goal.returns-clause-limit
returns-clause-limit c =
    lag_of-limit c.args.self.now c.args.i c.args.j (subst (λ (net : Net). HasGoodLags net) c.self.view_is c.self.invariant.0.limits.lags)
