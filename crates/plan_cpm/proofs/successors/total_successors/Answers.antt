use Rattle.std.proofs.Common.{ℕ, ◌≡◌, ◌+◌, ◌-◌, ◌≤◌, ◌<◌, ◌∷◌, [], ◌++◌, List, length, get_or, sym, ◌∙◌, ap, subst, arith}
use Rattle.std.proofs.lemmas.List.{length_push}
use Rattle.plan_net.specs.Network.{IsActivity, count_of}
use Rattle.plan_net.specs.Indexed.{row_at}
use Rattle.plan_net.proofs.RowLemmas.{row_at-read}
use Rattle.plan_cpm.specs.Successors.{IsCountOf, IsTotalSuccessor}
use Rattle.plan_cpm.specs.Reached.{IsReach}
use Rattle.plan_cpm.proofs.ReachLemmas.{IsCountOf-reach, IsCountOf-push}
use Rattle.plan_cpm.proofs.successors.total_successors.Goals as goal

pub marks_set-requires : goal.marks_set-requires
marks_set-requires c =
    let net = c.args.network.now in
    let k = c.loop-k.k in
    let same : k + 1 - 1 ≡ k = omega arith in
    let activity : IsActivity net (k + 1) = (omega arith, omega (arith, c.loop-k-test.true, c.len-k-end.ensures.count)) in
    let reach = c.in_ok-rows.ensures.each (k + 1) activity in
    let wide : length (row_at c.in_ok-rows.rows.items k) ≡ count_of net = subst (λ (x : ℕ). length (row_at c.in_ok-rows.rows.items x) ≡ count_of net) same reach.whole in
    let read : row_at c.in_ok-rows.rows.items k ≡ c.index.result.now.items =
    row_at-read c.in_ok-rows.rows.items k c.index.result.now
    (omega (arith, c.loop-k-test.true, c.len-k-end.ensures.count, c.in_ok-rows.ensures.whole))
    c.index.ensures in
    let size : count_of net ≤ 502 = c.len-k-end.ensures.sound.limits.size.1 in
    omega (arith, wide, ap length read, ap length c.deref.ensures.value, size)

pub loop-k-preserved : goal.loop-k-preserved
loop-k-preserved c =
    let net = c.args.network.now in
    let k = c.loop-k.k in
    let same : k + 1 - 1 ≡ k = omega arith in
    let activity : IsActivity net (k + 1) = (omega arith, omega (arith, c.loop-k-test.true, c.len-k-end.ensures.count)) in
    let read : row_at c.in_ok-rows.rows.items k ≡ c.index.result.now.items =
    row_at-read c.in_ok-rows.rows.items k c.index.result.now
    (omega (arith, c.loop-k-test.true, c.len-k-end.ensures.count, c.in_ok-rows.ensures.whole))
    c.index.ensures in
    let reach : IsReach net (k + 1) c.deref.result.now =
    subst (IsReach net (k + 1)) (read ∙ sym c.deref.ensures.value)
    (subst (λ (x : ℕ). IsReach net (k + 1) (row_at c.in_ok-rows.rows.items x)) same
    (c.in_ok-rows.ensures.each (k + 1) activity)) in
    let count : IsCountOf (IsTotalSuccessor net (k + 1)) c.marks_set.result =
    IsCountOf-reach net (k + 1) c.deref.result.now c.marks_set.result c.len-k-end.ensures.sound activity
    reach c.marks_set.ensures in
    let pushed : c.push.new.self.items ≡ c.loop-k.list.items ++ c.marks_set.result ∷ [] = c.in_ok-push.ensures.items in
    record {
      whole = omega (arith, ap length pushed, length_push c.loop-k.list.items c.marks_set.result, c.loop-k.invariant.whole);
      each = subst (λ (xs : List ℕ). (i : ℕ) → i < k + 1 → IsCountOf (IsTotalSuccessor net (i + 1)) (get_or xs i 0)) (sym pushed)
          (IsCountOf-push net c.loop-k.list.items k c.marks_set.result c.loop-k.invariant.whole count c.loop-k.invariant.each);
    }
