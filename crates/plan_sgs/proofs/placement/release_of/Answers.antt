-- One more predecessor at each turn.
use Rattle.std.proofs.Common.{ℕ, ◌≡◌, ◌+◌, ◌-◌, ◌≤◌, ◌<◌, length, get_or, sym, ◌∙◌, ap, subst, arith}
use Rattle.std.proofs.lemmas.List.Elements.{Contains-get_or}
use Rattle.plan_net.specs.Network.{Net, IsArc, lag_of}
use Rattle.plan_net.proofs.LagLemmas.{lag_in_place}
use Rattle.plan_net.proofs.RisingLemmas.{each_of_rising}
use Rattle.plan_cpm.proofs.StepLemmas.{greatest_more}
use Rattle.plan_sgs.specs.Serial.{end_of}
use Rattle.plan_sgs.specs.Instances.{problem_of}
use Rattle.plan_sgs.proofs.BoundedLemmas.{release_is}
use Rattle.plan_sgs.proofs.placement.release_of.Goals.{After-preds-i-items}
use Rattle.plan_sgs.proofs.placement.release_of.Goals as goal

-- the lag of each predecessor is at its index
in_place : (c : After-preds-i-items) (k : ℕ) → k < length c.preds-i-items.result.now →
    (k < length c.lags_into-lags.result.now) × (get_or c.lags_into-lags.result.now k 0 ≡ lag_of
    c.network-network.result.now (get_or c.preds-i-items.result.now k 0) c.args.j)
in_place c k = lag_in_place c.network-network.result.now c.args.j c.preds-i-items.result.now
    c.lags_into-lags.result.now k (c.lags_into-lags.ensures.value c.preds-i-items.result.now
    c.preds-i-items.ensures.exact)

pub bounds-lags-k : goal.bounds-lags-k
bounds-lags-k c = (in_place (goal.at.bounds-lags-k c).After-preds-i-items c.loop-k.k c.loop-k-test.true).0

pub loop-k-preserved : goal.loop-k-preserved
loop-k-preserved c =
    let items = c.preds-i-items.result.now in
    let net = c.network-network.ensures.network in
    let arc = (c.preds-i-items.ensures.exact.exact (get_or items c.loop-k.k 0)).0 (Contains-get_or items c.loop-k.k 0 c.loop-k-test.true) in
    let arc' : IsArc c.args.instance.now.project.network (get_or items c.loop-k.k 0) c.args.j = subst (λ (n : Net). IsArc n (get_or items c.loop-k.k 0) c.args.j) net arc in
    let within = in_place (goal.at.loop-k-preserved c).After-preds-i-items c.loop-k.k c.loop-k-test.true in
    let lag : get_or c.lags_into-lags.result.now c.loop-k.k 0 ≡ lag_of c.args.instance.now.project.network
    (get_or items c.loop-k.k 0) c.args.j = within.1
    ∙ ap (λ (n : Net). lag_of n (get_or items c.loop-k.k 0) c.args.j) net in
    let value : c.end_of.result + get_or c.lags_into-lags.result.now c.loop-k.k 0 ≡ end_of
    (problem_of c.args.instance.now) c.args.placed.now
    (get_or items c.loop-k.k 0 - 1) + lag_of c.args.instance.now.project.network
    (get_or items c.loop-k.k 0) c.args.j = omega (arith, lag, c.end_of.ensures.value) in
    let more = greatest_more (λ i. IsArc c.args.instance.now.project.network i c.args.j)
    (λ i. end_of (problem_of c.args.instance.now) c.args.placed.now
    (i - 1) + lag_of c.args.instance.now.project.network i c.args.j)
    items c.loop-k.k c.loop-k.from (c.end_of.result + get_or c.lags_into-lags.result.now c.loop-k.k 0)
    c.max-from.result c.max-from.ensures arc' value c.loop-k.invariant.above c.loop-k.invariant.reached in
    record { above = more.0; reached = more.1 }

pub returns : goal.returns
returns c =
    let net = c.network-network.ensures.network in
    release_is c.args.instance.now c.args.placed.now c.args.j c.loop-k.from c.network-network.ensures.instance.project.network c.requires.activity
    (λ h arc. each_of_rising (λ i. IsArc c.network-network.result.now i c.args.j)
    (λ i. end_of (problem_of c.args.instance.now) c.args.placed.now
    (i - 1) + lag_of c.args.instance.now.project.network i c.args.j ≤ c.loop-k.from)
    c.preds-i-items.result.now c.preds-i-items.ensures.exact
    (λ k within. c.loop-k.invariant.above k (omega (arith, c.loop-k-test.false))) h (subst (λ (n : Net). IsArc n h c.args.j) (sym net) arc)) c.loop-k.invariant.reached
