-- One more successor at each turn.
use Rattle.std.proofs.Common.{ℕ, ◌≡◌, ◌+◌, ◌-◌, ◌<◌, List, length, get_or, set, refl, sym, ap, subst, arith}
use Rattle.std.proofs.lemmas.List.{get_or_read}
use Rattle.plan_sgs.proofs.QueueLemmas.{AreLowered, raised_more, lowered_all}
use Rattle.plan_sgs.proofs.eligibility.raise_each.Goals as goal

pub loop-h-init : goal.loop-h-init
loop-h-init c = record { size = refl; each = λ h below. omega arith }

pub index_mut-requires : goal.index_mut-requires
index_mut-requires c = omega (arith, c.succs-h-items.ensures.activities c.loop-h.h-index c.loop-h-test.true, c.requires.waits, c.loop-h.invariant.size)

pub overflow_add-index_mut : goal.overflow_add-index_mut
overflow_add-index_mut c =
    let row = c.succs-h-items.result.now in
    let k = c.loop-h.h-index in
    let i = get_or row k 0 - 1 in
    let old = c.args.waits.now.items in
    let now = c.loop-h.waits.items in
    let inside : i < length old = omega (arith, c.succs-h-items.ensures.activities k c.loop-h-test.true, c.requires.waits) in
    let raised = raised_more row k old now c.succs-h-items.ensures.exact.rising (λ m low. (c.succs-h-items.ensures.activities m low).0) c.loop-h-test.true inside c.loop-h.invariant in
    let read : c.index_mut.result.now ≡ get_or now i 0 = get_or_read now i c.index_mut.result.now (omega (arith, inside, c.loop-h.invariant.size)) c.index_mut.ensures.value 0 in
    omega (arith, read, raised.0, c.requires.limit i inside, ap (λ (arcs : List (ℕ × ℕ)). length arcs) c.arcs-arcs.ensures.value, c.arcs-arcs.type_inv.0)

pub loop-h-preserved : goal.loop-h-preserved
loop-h-preserved c =
    let row = c.succs-h-items.result.now in
    let k = c.loop-h.h-index in
    let i = get_or row k 0 - 1 in
    let old = c.args.waits.now.items in
    let now = c.loop-h.waits.items in
    let inside : i < length old = omega (arith, c.succs-h-items.ensures.activities k c.loop-h-test.true, c.requires.waits) in
    let raised = raised_more row k old now c.succs-h-items.ensures.exact.rising (λ m low. (c.succs-h-items.ensures.activities m low).0) c.loop-h-test.true inside c.loop-h.invariant in
    let read : c.index_mut.result.now ≡ get_or now i 0 = get_or_read now i c.index_mut.result.now (omega (arith, inside, c.loop-h.invariant.size)) c.index_mut.ensures.value 0 in
    subst (λ (n : ℕ). AreLowered row (k + 1) (set now i (n + 1)) old) (sym read) raised.1

pub returns : goal.returns
returns c =
    lowered_all c.args.network.now c.args.j c.succs-h-items.result.now c.loop-h.h-index c.loop-h.waits.items
    c.args.waits.now.items c.requires.sound.limits c.requires.activity c.succs-h-items.ensures.exact
    c.succs-h-items.ensures.activities (omega (arith, c.loop-h-test.false)) c.loop-h.invariant
