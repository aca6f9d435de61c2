-- One more successor at each turn.
use Rattle.std.proofs.Common.{ℕ, ◌≡◌, ◌+◌, ◌-◌, get_or, set, refl, sym, subst, arith}
use Rattle.std.proofs.lemmas.List.{get_or_read}
use Rattle.plan_sgs.proofs.QueueLemmas.{AreLowered, lowered_more, next_known, lowered_all}
use Rattle.plan_sgs.proofs.eligibility.lower_each.Goals as goal

pub loop-h-init : goal.loop-h-init
loop-h-init c = record { size = refl; each = λ h below. omega arith }

pub overflow_sub-index_mut : goal.overflow_sub-index_mut
overflow_sub-index_mut c =
    let row = c.succs-h-items.result.now in
    let i = get_or row c.loop-h.h-index 0 - 1 in
    let known = next_known c.args.network.now c.args.j row c.loop-h.h-index c.args.waits.now.items
    c.loop-h.waits.items c.requires.waits c.succs-h-items.ensures.exact c.succs-h-items.ensures.activities
    c.requires.waiting c.loop-h-test.true c.loop-h.invariant in
    let read : c.index_mut.result.now ≡ get_or c.loop-h.waits.items i 0 =
    get_or_read c.loop-h.waits.items i c.index_mut.result.now
    (omega (arith, known.1, c.loop-h.invariant.size)) c.index_mut.ensures.value 0 in
    omega (arith, read, known.2)

pub loop-h-preserved : goal.loop-h-preserved
loop-h-preserved c =
    let row = c.succs-h-items.result.now in
    let k = c.loop-h.h-index in
    let i = get_or row c.loop-h.h-index 0 - 1 in
    let now = c.loop-h.waits.items in
    let known = next_known c.args.network.now c.args.j row k c.args.waits.now.items now c.requires.waits
    c.succs-h-items.ensures.exact c.succs-h-items.ensures.activities c.requires.waiting c.loop-h-test.true
    c.loop-h.invariant in
    let read : c.index_mut.result.now ≡ get_or now i 0 = get_or_read now i c.index_mut.result.now (omega (arith, known.1, c.loop-h.invariant.size)) c.index_mut.ensures.value 0 in
    subst (λ (n : ℕ). AreLowered row (k + 1) c.args.waits.now.items (set now i (n - 1))) (sym read)
    (lowered_more row k c.args.waits.now.items now c.loop-h-test.true known.1 known.2 c.loop-h.invariant)

pub returns : goal.returns
returns c =
    lowered_all c.args.network.now c.args.j c.succs-h-items.result.now c.loop-h.h-index c.args.waits.now.items
    c.loop-h.waits.items c.requires.sound.limits c.requires.activity c.succs-h-items.ensures.exact
    c.succs-h-items.ensures.activities (omega (arith, c.loop-h-test.false)) c.loop-h.invariant
