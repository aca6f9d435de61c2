use Rattle.std.proofs.Common.{ℕ, ◌≡◌, ◌+◌, ◌-◌, ◌≤◌, ◌<◌, ◌∷◌, [], ◌++◌, List, length, get_or, sym, subst, ap, ◌∙◌, arith}
use Rattle.std.proofs.lemmas.List.{get_or_read, length_push}
use Rattle.plan_net.specs.Network.{IsActivity}
use Rattle.plan_cpm.specs.Dates.{IsNextStart}
use Rattle.plan_cpm.proofs.JoinLemmas.{finish_at_most_next, IsNextStart-push}
use Rattle.plan_cpm.proofs.floats.free_floats.Goals.{After-index}
use Rattle.plan_cpm.proofs.floats.free_floats.Goals as goal

activity : (c : After-index) → IsActivity c.args.network.now (c.loop-k.k + 1)
activity c = (omega arith, omega (arith, c.loop-k-test.true, c.len-k-end.ensures.count))

-- the entry of the activity
next_read : (c : After-index) → IsNextStart c.args.network.now c.args.finishes.now c.args.duration (c.loop-k.k + 1) c.index.result.now
next_read c =
    let k = c.loop-k.k in
    let nexts = c.in_ok-nexts.nexts.items in
    let same : k + 1 - 1 ≡ k = omega arith in
    let read : c.index.result.now ≡ get_or nexts k 0 =
    get_or_read nexts k c.index.result.now (omega
    (arith, c.in_ok-nexts.ensures.whole, c.loop-k-test.true, c.len-k-end.ensures.count)) c.index.ensures
    0 in
    subst (IsNextStart c.args.network.now c.args.finishes.now c.args.duration (k + 1)) (ap (λ (x : ℕ). get_or nexts x 0) same ∙ sym read) (c.in_ok-nexts.ensures.next (k + 1) (activity c))

-- an activity finishes no later than the next has to start
in_time : (c : After-index) → get_or c.args.finishes.now c.loop-k.k 0 ≤ c.index.result.now
in_time c =
    let k = c.loop-k.k in
    let same : k + 1 - 1 ≡ k = omega arith in
    let low : get_or c.args.finishes.now (k + 1 - 1) 0 ≤ c.index.result.now =
    finish_at_most_next c.args.network.now c.args.finishes.now c.args.duration
    (k + 1) c.index.result.now c.len-k-end.ensures.sound.limits c.requires.finishes c.requires.duration
    (activity c) (next_read c) in
    subst (λ (x : ℕ). get_or c.args.finishes.now x 0 ≤ c.index.result.now) same low

pub overflow_sub-index : goal.overflow_sub-index
overflow_sub-index c = in_time (goal.at.overflow_sub-index c).After-index

pub loop-k-preserved : goal.loop-k-preserved
loop-k-preserved c =
    let before = (goal.at.loop-k-preserved c).After-index in
    let k = c.loop-k.k in
    let net = c.args.network.now in
    let finishes = c.args.finishes.now in
    let list = c.loop-k.list.items in
    let value = c.index.result.now - get_or finishes k 0 in
    let pushed : c.push.new.self.items ≡ list ++ value ∷ [] = c.in_ok-push.ensures.items in
    let is : c.index.result.now ≡ get_or finishes k 0 + value = omega (arith, in_time before) in
    let next : IsNextStart net finishes c.args.duration (k + 1) (get_or finishes k 0 + value) = subst (IsNextStart net finishes c.args.duration (k + 1)) is (next_read before) in
    record {
      whole = omega (arith, ap length pushed, length_push list value, c.loop-k.invariant.whole);
      next = subst (λ (xs : List ℕ). (i : ℕ) → i < k + 1 → IsNextStart net finishes c.args.duration (i + 1) (get_or finishes i 0 + get_or xs i 0)) (sym pushed)
          (IsNextStart-push net finishes list c.args.duration k value c.loop-k.invariant.whole next c.loop-k.invariant.next);
    }
