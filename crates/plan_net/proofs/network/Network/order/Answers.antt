use Rattle.std.proofs.Common.{sym, subst}
use Rattle.plan_net.specs.Network.{Net}
use Rattle.plan_net.specs.Order.{IsTopological}
use Rattle.plan_net.proofs.network.Network.order.Goals as goal

pub returns-clause-topological : goal.returns-clause-topological
returns-clause-topological c =
    subst (λ (net : Net). IsTopological net c.as_slice.result.now) c.self.view_is
    (subst (IsTopological c.self.inside.arcs) (sym c.as_slice.ensures.value) (λ k i within arc. (c.self.invariant.1.least k within).0.2 i arc))
