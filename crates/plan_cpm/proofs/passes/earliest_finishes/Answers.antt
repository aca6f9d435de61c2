use Rattle.std.proofs.Common.{ℕ, ◌≡◌, ◌+◌, ◌-◌, ◌*◌, ◌≤◌, ◌⊎◌, List, length, get_or, sym, ◌∙◌, subst, arith}
use Rattle.std.proofs.lemmas.List.{length-set}
use Rattle.plan_net.specs.Network.{IsArc, IsGreatest, lag_of, duration_of, count_of}
use Rattle.plan_cpm.specs.Lengths.{IsLengthTo}
use Rattle.plan_cpm.proofs.StepLemmas.{finish_step, start_bound}
use Rattle.plan_cpm.proofs.PassLemmas.{RightBetween, RightBetween-set, preds_right, each_right, bound_set}
use Rattle.plan_cpm.proofs.passes.earliest_finishes.Goals as goal

pub overflow_add-start : goal.overflow_add-start
overflow_add-start c =
    let j = get_or c.order-j-items.result.now c.loop-j.j-index 0 in
    let reached = subst (λ (xs : List ℕ). (c.last_before-start.result ≡ 0)
    ⊎ ((i : ℕ) × IsArc c.args.network.now i j × (c.last_before-start.result ≡ get_or xs
    (i - 1) 0 + lag_of c.args.network.now i j))) c.deref.ensures.value
    c.last_before-start.ensures.reached in
    let start : c.last_before-start.result ≤ 20000 * c.loop-j.j-index + 10000 =
    start_bound c.args.network.now c.loop-j.finishes.items j c.last_before-start.result
    (20000 * c.loop-j.j-index) c.len.ensures.sound.limits.lags c.loop-j.invariant.bound reached in
    let size : count_of c.args.network.now ≤ 502 = c.len.ensures.sound.limits.size.1 in
    let whole : length c.order-j-items.result.now ≡ count_of c.args.network.now = c.order-j-items.ensures.least.whole in
    omega (arith, start, c.duration.ensures.limit, size, whole, c.loop-j-test.true)

pub loop-j-preserved : goal.loop-j-preserved
loop-j-preserved c =
    let net = c.args.network.now in
    let order = c.order-j-items.result.now in
    let m = c.loop-j.j-index in
    let j = get_or order m 0 in
    let list = c.loop-j.finishes.items in
    let inv = c.loop-j.invariant in
    let P : ℕ → ℕ → Type 0 = λ h. IsGreatest (IsLengthTo net h) in
    let above : (i : ℕ) → IsArc net i j → get_or list
    (i - 1) 0 + lag_of net i j ≤ c.last_before-start.result =
    subst (λ (xs : List ℕ). (i : ℕ) → IsArc net i j →
    get_or xs (i - 1) 0 + lag_of net i j ≤ c.last_before-start.result) c.deref.ensures.value
    c.last_before-start.ensures.above in
    let reached : (c.last_before-start.result ≡ 0)
    ⊎ ((i : ℕ) × IsArc net i j × (c.last_before-start.result ≡ get_or list (i - 1) 0 + lag_of net i j)) =
    subst (λ (xs : List ℕ). (c.last_before-start.result ≡ 0)
    ⊎ ((i : ℕ) × IsArc net i j × (c.last_before-start.result ≡ get_or xs (i - 1) 0 + lag_of net i j)))
    c.deref.ensures.value c.last_before-start.ensures.reached in
    let step : P j (c.last_before-start.result + duration_of net j) =
    finish_step net j (λ i. get_or list (i - 1) 0) c.last_before-start.result
    (c.order-j-items.ensures.activities m c.loop-j-test.true)
    (preds_right P net order list m c.order-j-items.ensures.least c.loop-j-test.true inv.done) above
    reached in
    let here : P j (c.last_before-start.result + c.duration.result) = subst (λ (d : ℕ). P j (c.last_before-start.result + d)) (sym c.duration.ensures.value) step in
    let start : c.last_before-start.result ≤ 20000 * m + 10000 = start_bound net list j c.last_before-start.result (20000 * m) c.len.ensures.sound.limits.lags inv.bound reached in
    record {
      whole = length-set list (j - 1) (c.last_before-start.result + c.duration.result) ∙ inv.whole;
      done = RightBetween-set P net order list 0 m m
          (c.last_before-start.result + c.duration.result) c.order-j-items.ensures.least
          c.order-j-items.ensures.activities inv.whole c.loop-j-test.true here 0 (m + 1)
          (λ k lower upper other. (lower, omega (arith, other))) inv.done;
      bound = bound_set list (j - 1) (c.last_before-start.result + c.duration.result) (20000 * m) (20000 * (m + 1)) (omega arith) (omega (arith, start, c.duration.ensures.limit)) inv.bound;
    }

pub returns : goal.returns
returns c =
    let net = c.args.network.now in
    let order = c.order-j-items.result.now in
    let all : c.loop-j.j-index ≡ length order = omega arith in
    let P : ℕ → ℕ → Type 0 = λ h. IsGreatest (IsLengthTo net h) in
    let done : RightBetween P order c.loop-j.finishes.items 0 (length order) = subst (λ (k : ℕ). RightBetween P order c.loop-j.finishes.items 0 k) all c.loop-j.invariant.done in
    record { whole = c.loop-j.invariant.whole; greatest = each_right P net order c.loop-j.finishes.items c.order-j-items.ensures.least done }
