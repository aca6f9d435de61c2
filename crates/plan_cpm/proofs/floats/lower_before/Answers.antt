use Rattle.std.proofs.Common.{ℕ, min, ◌≡◌, ◌-◌, ◌≤◌, ◌<◌, length, get_or, ap, subst, ◌∙◌, arith}
use Rattle.std.proofs.lemmas.List.{get_or_read}
use Rattle.std.proofs.lemmas.List.Elements.{Contains-get_or}
use Rattle.plan_net.specs.Network.{IsArc, lag_of}
use Rattle.plan_net.proofs.LagLemmas.{lag_in_place}
use Rattle.plan_cpm.proofs.MoveLemmas.{AreMoved, AreMoved-more, min_either}
use Rattle.plan_cpm.proofs.NextLemmas.{LowersBefore-from_moved}
use Rattle.plan_cpm.proofs.floats.lower_before.Goals.{After-preds-j-items}
use Rattle.plan_cpm.proofs.floats.lower_before.Goals as goal

-- the lag of each predecessor is at its index
in_place : (c : After-preds-j-items) (m : ℕ) → m < length c.preds-j-items.result.now →
    (m < length c.lags_into-lags.result.now) × (get_or c.lags_into-lags.result.now m 0 ≡ lag_of
    c.args.network.now (get_or c.preds-j-items.result.now m 0) c.args.k)
in_place c m = lag_in_place c.args.network.now c.args.k c.preds-j-items.result.now c.lags_into-lags.result.now
    m (c.lags_into-lags.ensures.value c.preds-j-items.result.now c.preds-j-items.ensures.exact)

-- the entry there is a predecessor
arc_at : (c : After-preds-j-items) (m : ℕ) → m < length c.preds-j-items.result.now → IsArc c.args.network.now (get_or c.preds-j-items.result.now m 0) c.args.k
arc_at c m within = (c.preds-j-items.ensures.exact.exact (get_or c.preds-j-items.result.now m 0)).0 (Contains-get_or c.preds-j-items.result.now m 0 within)

pub bounds-lags-m : goal.bounds-lags-m
bounds-lags-m c = (in_place (goal.at.bounds-lags-m c).After-preds-j-items c.loop-m.m c.loop-m-test.true).0

pub overflow_sub-end : goal.overflow_sub-end
overflow_sub-end c =
    let before = (goal.at.overflow_sub-end c).After-preds-j-items in
    omega (arith, (in_place before c.loop-m.m c.loop-m-test.true).1, c.requires.start (get_or c.preds-j-items.result.now c.loop-m.m 0) (arc_at before c.loop-m.m c.loop-m-test.true))

pub loop-m-preserved : goal.loop-m-preserved
loop-m-preserved c =
    let before = (goal.at.loop-m-preserved c).After-preds-j-items in
    let net = c.args.network.now in
    let items = c.preds-j-items.result.now in
    let list = c.loop-m.nexts.items in
    let m = c.loop-m.m in
    let here = c.preds-j-items.ensures.activities m c.loop-m-test.true in
    let within : get_or items m 0 - 1 < length list = omega (arith, here, c.requires.whole, c.loop-m.invariant.whole) in
    let read : c.index.result.now ≡ get_or list (get_or items m 0 - 1) 0 = get_or_read list (get_or items m 0 - 1) c.index.result.now within c.index.ensures 0 in
    let lag : get_or c.lags_into-lags.result.now m 0 ≡ lag_of net (get_or items m 0) c.args.k = (in_place before m c.loop-m-test.true).1 in
    let value : c.min.result ≡ min (get_or list (get_or items m 0 - 1) 0) (c.args.start - lag_of net (get_or items m 0) c.args.k) =
    c.min.ensures ∙ (ap (λ (x : ℕ). min x (c.args.start - get_or c.lags_into-lags.result.now m 0)) read ∙ ap (λ (w : ℕ). min (get_or list (get_or items m 0 - 1) 0) (c.args.start - w)) lag) in
    AreMoved-more (λ a b. b ≤ a) (λ j. IsArc net j c.args.k)
    (λ j. c.args.start - lag_of net j c.args.k) items m c.min.result c.args.nexts.now.items list
    (λ a. omega arith) (λ a b e high low. omega (arith, high, low))
    (arc_at before m c.loop-m-test.true) within (omega (arith, value)) (omega (arith, value))
    (min_either c.min.result (get_or list (get_or items m 0 - 1) 0) (c.args.start - lag_of net (get_or items m 0) c.args.k) value) c.loop-m.invariant

pub returns : goal.returns
returns c =
    let items = c.preds-j-items.result.now in
    let all : c.loop-m.m ≡ length items = omega (arith, c.loop-m-test.false) in
    LowersBefore-from_moved c.args.network.now c.args.k c.args.start items c.args.nexts.now.items c.loop-m.nexts.items c.preds-j-items.ensures.exact c.requires.start
    (subst (λ (n : ℕ). AreMoved (λ a b. b ≤ a) (λ j. IsArc c.args.network.now j c.args.k)
    (λ j. c.args.start - lag_of c.args.network.now j c.args.k) items n c.args.nexts.now.items
    c.loop-m.nexts.items) all c.loop-m.invariant)
