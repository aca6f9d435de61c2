use Rattle.std.proofs.Common.{ℕ, ◌≡◌, ◌+◌, ◌-◌, ◌*◌, ◌≤◌, ◌<◌, length, get_or, set, ◌∙◌, subst, arith}
use Rattle.std.proofs.lemmas.List.{get_or_read, length-set}
use Rattle.plan_net.specs.Network.{IsGreatest, duration_of}
use Rattle.plan_cpm.specs.Lengths.{IsLengthFrom}
use Rattle.plan_cpm.proofs.PassLemmas.{RightBetween, each_right, bound_set}
use Rattle.plan_cpm.proofs.BackLemmas.{AreRests, AreRests-step, raised_bound}
use Rattle.plan_cpm.proofs.passes.tails.Goals as goal

pub loop-left-preserved : goal.loop-left-preserved
loop-left-preserved c =
    let net = c.args.network.now in
    let order = c.order-order.result.now in
    let m = c.loop-left.left - 1 in
    let place = get_or order m 0 - 1 in
    let list = c.loop-left.tails.items in
    let inv = c.loop-left.invariant in
    let tail = c.duration.result + c.index.result.now in
    let inside : m < length order = omega (arith, inv.low, c.loop-left-test.true) in
    let within : place < length list = omega (arith, inv.whole, c.order-order.ensures.activities m inside) in
    let read : c.index.result.now ≡ get_or list place 0 = get_or_read list place c.index.result.now within c.index.ensures 0 in
    let is : tail ≡ duration_of net (get_or order m 0) + get_or list place 0 = omega (arith, read, c.duration.ensures.value) in
    let next : c.loop-left.left ≡ m + 1 = omega (arith, c.loop-left-test.true) in
    let rests : AreRests net order list (m + 1) = subst (AreRests net order list) next inv.rests in
    let limits = c.len.ensures.sound.limits in
    let most = 20000 * (length order - c.loop-left.left) in
    let low : tail ≤ 10000 + most = omega (arith, read, inv.bound place, c.duration.ensures.limit) in
    record {
      whole = c.raise_before.ensures.whole ∙ (length-set list place tail ∙ inv.whole);
      low = omega (arith, inv.low);
      rests = AreRests-step net order list c.raise_before.new.rests.items m tail limits c.order-order.ensures.least c.order-order.ensures.activities inv.whole inside rests is c.raise_before.ensures;
      bound = raised_bound net (get_or order m 0) tail (10000 + most) (20000 * (length order - m)) (set list place tail) c.raise_before.new.rests.items limits.lags c.raise_before.ensures
          (omega (arith, inv.low, c.loop-left-test.true)) (omega (arith, low, inv.low, c.loop-left-test.true))
          (bound_set list place tail most (10000 + most) (omega arith) low inv.bound);
    }

pub returns : goal.returns
returns c =
    let net = c.args.network.now in
    let order = c.order-order.result.now in
    let none : c.loop-left.left ≡ 0 = omega (arith, c.loop-left-test.false) in
    let P : ℕ → ℕ → Type 0 = λ h. IsGreatest (IsLengthFrom net h) in
    let done : RightBetween P order c.loop-left.tails.items 0 (length order) = subst (λ (k : ℕ). RightBetween P order c.loop-left.tails.items k (length order)) none c.loop-left.invariant.rests.done in
    record { whole = c.loop-left.invariant.whole; greatest = each_right P net order c.loop-left.tails.items c.order-order.ensures.least done }
