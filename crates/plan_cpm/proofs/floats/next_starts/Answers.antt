use Rattle.std.proofs.Common.{ℕ, ◌≡◌, ◌+◌, ◌-◌, ◌≤◌, get_or, subst, arith}
use Rattle.plan_net.specs.Network.{IsActivity, count_of, duration_of}
use Rattle.plan_cpm.proofs.JoinLemmas.{lasts}
use Rattle.plan_cpm.proofs.NextLemmas.{AreNextStartsOf, AreNextStartsOf-more, AreNextStarts-whole, lag_at_most_start}
use Rattle.plan_cpm.proofs.floats.next_starts.Goals.{After-duration}
use Rattle.plan_cpm.proofs.floats.next_starts.Goals as goal

-- the duration of the activity is at most its finish
lasting : (c : After-duration) → c.duration.result ≤ get_or c.args.finishes.now c.loop-i.i 0
lasting c =
    let same : c.loop-i.i + 1 - 1 ≡ c.loop-i.i = omega arith in
    let activity : IsActivity c.args.network.now (c.loop-i.i + 1) = (omega arith, omega (arith, c.loop-i-test.true, c.len-i-end.ensures.count)) in
    let long = lasts c.args.network.now (c.loop-i.i + 1) (get_or c.args.finishes.now (c.loop-i.i + 1 - 1) 0) activity (c.requires.finishes.greatest (c.loop-i.i + 1) activity) in
    let long' : duration_of c.args.network.now (c.loop-i.i + 1) ≤ get_or c.args.finishes.now c.loop-i.i 0 =
    subst (λ (x : ℕ). duration_of c.args.network.now (c.loop-i.i + 1) ≤ get_or c.args.finishes.now x 0)
    same long in
    omega (arith, long', c.duration.ensures.value)

-- its start is the difference
start_is : (c : After-duration) → get_or c.args.finishes.now c.loop-i.i 0 - c.duration.result + duration_of c.args.network.now (c.loop-i.i + 1) ≡ get_or c.args.finishes.now c.loop-i.i 0
start_is c = omega (arith, lasting c, c.duration.ensures.value)

pub overflow_sub-start : goal.overflow_sub-start
overflow_sub-start c = lasting (goal.at.overflow_sub-start c).After-duration

pub lower_before-requires-clause-start : goal.lower_before-requires-clause-start
lower_before-requires-clause-start c j arc =
    let before = (goal.at.lower_before-requires-clause-start c).After-duration in
    let same : c.loop-i.i ≡ c.loop-i.i + 1 - 1 = omega arith in
    lag_at_most_start c.args.network.now c.args.finishes.now j (c.loop-i.i + 1) (get_or c.args.finishes.now c.loop-i.i 0 - c.duration.result) c.len.ensures.sound.limits c.requires.finishes
    (subst (λ (x : ℕ). get_or c.args.finishes.now c.loop-i.i 0 - c.duration.result + duration_of c.args.network.now (c.loop-i.i + 1) ≡ get_or c.args.finishes.now x 0) same (start_is before)) arc

pub loop-i-preserved : goal.loop-i-preserved
loop-i-preserved c =
    AreNextStartsOf-more c.args.network.now c.args.finishes.now c.loop-i.nexts.items
    c.lower_before.new.nexts.items c.args.duration c.loop-i.i
    (get_or c.args.finishes.now c.loop-i.i 0 - c.duration.result) c.len.ensures.sound.limits
    (start_is (goal.at.loop-i-preserved c).After-duration) c.lower_before.ensures c.loop-i.invariant

pub returns : goal.returns
returns c =
    let all : c.loop-i.i ≡ count_of c.args.network.now = omega (arith, c.loop-i-test.false, c.len-i-end.ensures.count) in
    AreNextStarts-whole c.args.network.now c.args.finishes.now c.loop-i.nexts.items c.args.duration c.len.ensures.sound.limits
    (subst (λ (n : ℕ). AreNextStartsOf c.args.network.now c.args.finishes.now c.args.duration n c.loop-i.nexts.items) all c.loop-i.invariant)
