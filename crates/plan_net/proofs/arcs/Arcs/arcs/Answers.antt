use Rattle.plan_net.proofs.LagLemmas.{lags_told}
use Rattle.plan_net.proofs.arcs.Arcs.arcs.Goals as goal

pub returns-clause-lags : goal.returns-clause-lags
returns-clause-lags c = lags_told c.self.inside c.args.self.now c.self.view_is
