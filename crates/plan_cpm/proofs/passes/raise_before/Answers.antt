use Rattle.std.proofs.Common.{ℕ, max, ◌≡◌, ◌+◌, ◌-◌, ◌≤◌, ◌<◌, length, get_or, ap, ◌∙◌, arith}
use Rattle.std.proofs.lemmas.List.{get_or_read}
use Rattle.std.proofs.lemmas.List.Elements.{Contains-get_or}
use Rattle.plan_net.specs.Network.{IsArc, lag_of}
use Rattle.plan_net.proofs.LagLemmas.{lag_in_place}
use Rattle.plan_net.proofs.RisingLemmas.{each_of_rising}
use Rattle.plan_cpm.proofs.MoveLemmas.{AreMoved-more, max_either}
use Rattle.plan_cpm.proofs.passes.raise_before.Goals.{After-preds-i-items}
use Rattle.plan_cpm.proofs.passes.raise_before.Goals as goal

-- the lag of each predecessor is at its index
in_place : (c : After-preds-i-items) (k : ℕ) → k < length c.preds-i-items.result.now →
    (k < length c.lags_into-lags.result.now) × (get_or c.lags_into-lags.result.now k 0 ≡ lag_of
    c.args.network.now (get_or c.preds-i-items.result.now k 0) c.args.j)
in_place c k = lag_in_place c.args.network.now c.args.j c.preds-i-items.result.now c.lags_into-lags.result.now
    k (c.lags_into-lags.ensures.value c.preds-i-items.result.now c.preds-i-items.ensures.exact)

pub bounds-lags-k : goal.bounds-lags-k
bounds-lags-k c = (in_place (goal.at.bounds-lags-k c).After-preds-i-items c.loop-k.k c.loop-k-test.true).0

pub loop-k-preserved : goal.loop-k-preserved
loop-k-preserved c =
    let net = c.args.network.now in
    let items = c.preds-i-items.result.now in
    let list = c.loop-k.rests.items in
    let k = c.loop-k.k in
    let here = c.preds-i-items.ensures.activities k c.loop-k-test.true in
    let within : get_or items k 0 - 1 < length list = omega (arith, here, c.requires.whole, c.loop-k.invariant.whole) in
    let read : c.index.result.now ≡ get_or list (get_or items k 0 - 1) 0 = get_or_read list (get_or items k 0 - 1) c.index.result.now within c.index.ensures 0 in
    let lag : get_or c.lags_into-lags.result.now k 0 ≡ lag_of net (get_or items k 0) c.args.j = (in_place (goal.at.loop-k-preserved c).After-preds-i-items k c.loop-k-test.true).1 in
    let value : c.max.result ≡ max (get_or list (get_or items k 0 - 1) 0) (lag_of net (get_or items k 0) c.args.j + c.args.tail) =
    c.max.ensures ∙ (ap (λ (x : ℕ). max x (get_or c.lags_into-lags.result.now k 0 + c.args.tail)) read ∙ ap (λ (w : ℕ). max (get_or list (get_or items k 0 - 1) 0) (w + c.args.tail)) lag) in
    AreMoved-more (λ a b. a ≤ b) (λ i. IsArc net i c.args.j)
    (λ i. lag_of net i c.args.j + c.args.tail) items k c.max.result c.args.rests.now.items list
    (λ a. omega arith) (λ a b e low high. omega (arith, low, high))
    ((c.preds-i-items.ensures.exact.exact (get_or items k 0)).0 (Contains-get_or items k 0 c.loop-k-test.true)) within (omega (arith, value)) (omega (arith, value))
    (max_either c.max.result (get_or list (get_or items k 0 - 1) 0) (lag_of net (get_or items k 0) c.args.j + c.args.tail) value) c.loop-k.invariant

pub returns : goal.returns
returns c = record {
  whole = c.loop-k.invariant.whole;
  kept = c.loop-k.invariant.kept;
  raised = each_of_rising (λ i. IsArc c.args.network.now i c.args.j)
      (λ i. lag_of c.args.network.now i c.args.j + c.args.tail ≤ get_or c.loop-k.rests.items (i - 1) 0)
      c.preds-i-items.result.now c.preds-i-items.ensures.exact
      (λ k within. c.loop-k.invariant.moved k (omega (arith, within, c.loop-k-test.false)));
  reached = c.loop-k.invariant.reached;
}
