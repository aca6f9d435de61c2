use Rattle.std.proofs.Common.{◌≡◌, ◌-◌, ◌<◌, List, ℕ, length, ap, subst, sym, arith}
use Rattle.plan_net.specs.Network.{count_of}
use Rattle.plan_psplib.specs.Project.{Project, AreAmounts}
use Rattle.plan_psplib.proofs.NetworkLemmas.{row_good}
use Rattle.plan_psplib.proofs.sm.project.ProjectDoc.needs.Goals as goal

pub returns-clause-amounts : goal.returns-clause-amounts
returns-clause-amounts c =
    let good : List ℕ → Type 0 = AreAmounts (length c.self.inside.avail.items) in
    let counted : count_of c.self.inside.network ≡ count_of c.args.self.now.network = ap (λ (p : Project). count_of p.network) c.self.view_is in
    let active = c.requires in
    let below : c.args.activity - 1 < count_of c.self.inside.network = omega (arith, counted, active.0, active.1) in
    let row = row_good good (λ v. v.items) c.self.inside.needs.items (c.args.activity - 1) c.index.result.now
    (count_of c.self.inside.network) c.self.invariant.rows below c.index.ensures c.self.invariant.needs in
    let Lent : List ℕ → Type 0 = good in
    let Seen : Project → Type 0 = λ p. AreAmounts (length p.available) c.deref.result.now in
    subst Seen c.self.view_is (subst Lent (sym c.deref.ensures.value) row)
