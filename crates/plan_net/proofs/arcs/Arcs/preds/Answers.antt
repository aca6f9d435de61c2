use Rattle.std.proofs.Common.{ℕ, List, subst, sym}
use Rattle.plan_net.specs.Network.{IsActivity, IsArc, ListsRising}
use Rattle.plan_net.proofs.RowLemmas.{preds_listed, entries_have, arc_ends, within_limits}
use Rattle.plan_net.proofs.arcs.Arcs.preds.Goals as goal

pub returns-clause-exact : goal.returns-clause-exact
returns-clause-exact c =
    let listed = preds_listed c.self.inside c.args.self.now c.args.j c.index.result.now c.self.invariant c.self.view_is c.requires c.index.ensures in
    subst (λ (xs : List ℕ). ListsRising (λ i. IsArc c.args.self.now i c.args.j) xs) (sym c.as_slice.ensures.value) listed

pub returns-clause-activities : goal.returns-clause-activities
returns-clause-activities c =
    let limits = within_limits c.self.inside c.args.self.now c.self.invariant c.self.view_is in
    entries_have (λ i. IsArc c.args.self.now i c.args.j) (IsActivity c.args.self.now) c.as_slice.result.now (returns-clause-exact c) (λ i arc. (arc_ends c.args.self.now i c.args.j limits arc).0)
