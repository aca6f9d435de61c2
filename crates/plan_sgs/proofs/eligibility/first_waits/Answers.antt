-- One more arc at each turn.
use Rattle.std.proofs.Common.{ℕ, ◌≡◌, ◌+◌, ◌-◌, List, get_or, set, take, replicate, refl, sym, ◌∙◌, ap, subst, arith}
use Rattle.std.proofs.lemmas.List.{take_all, length-take-le, get_or_read}
use Rattle.plan_net.specs.Network.{count_of}
use Rattle.plan_sgs.specs.Eligibility.{AreInDegrees}
use Rattle.plan_sgs.proofs.CountLemmas.{degrees_first, degrees_more, degree_limit, arc_inside}
use Rattle.plan_sgs.proofs.eligibility.first_waits.Goals as goal

pub loop-j-init : goal.loop-j-init
loop-j-init c =
    let none : c.in_ok-waits.waits.items ≡ replicate c.len.result 0 = c.in_ok-waits.ensures.items_if_clones_equal (λ y same. same) in
    degrees_first (count_of c.args.network.now) c.in_ok-waits.waits.items (none ∙ ap (λ (n : ℕ). replicate n 0) c.len.ensures.count)

pub index_mut-requires : goal.index_mut-requires
index_mut-requires c =
    omega (arith, arc_inside c.args.network.now c.arcs-j-items.result.now c.loop-j.j-index c.len.ensures.sound.limits c.arcs-j-items.ensures.value c.loop-j-test.true, c.loop-j.invariant.size)

pub overflow_add-index_mut : goal.overflow_add-index_mut
overflow_add-index_mut c =
    let arcs = c.arcs-j-items.result.now in
    let inside = arc_inside c.args.network.now arcs c.loop-j.j-index c.len.ensures.sound.limits c.arcs-j-items.ensures.value c.loop-j-test.true in
    let i = (get_or arcs c.loop-j.j-index (0, 0)).1 - 1 in
    let few = degree_limit (count_of c.args.network.now) (take c.loop-j.j-index arcs) c.loop-j.waits.items i c.loop-j.invariant inside in
    let read : c.index_mut.result.now ≡ get_or c.loop-j.waits.items i 0 =
    get_or_read c.loop-j.waits.items i c.index_mut.result.now
    (omega (arith, inside, c.loop-j.invariant.size)) c.index_mut.ensures.value 0 in
    omega (arith, few, length-take-le c.loop-j.j-index arcs c.loop-j.auto.j-index-end, read, c.loop-j-test.true, c.arcs-j-items.type_inv.0)

pub loop-j-preserved : goal.loop-j-preserved
loop-j-preserved c =
    let arcs = c.arcs-j-items.result.now in
    let i = (get_or arcs c.loop-j.j-index (0, 0)).1 - 1 in
    let inside = arc_inside c.args.network.now arcs c.loop-j.j-index c.len.ensures.sound.limits c.arcs-j-items.ensures.value c.loop-j-test.true in
    let read : c.index_mut.result.now ≡ get_or c.loop-j.waits.items i 0 =
    get_or_read c.loop-j.waits.items i c.index_mut.result.now
    (omega (arith, inside, c.loop-j.invariant.size)) c.index_mut.ensures.value 0 in
    subst (λ (n : ℕ). AreInDegrees (count_of c.args.network.now) (take (c.loop-j.j-index + 1) arcs) (set c.loop-j.waits.items i (n + 1))) (sym read)
    (degrees_more (count_of c.args.network.now) c.loop-j.j-index arcs c.loop-j.waits.items i c.loop-j-test.true refl inside c.loop-j.invariant)

pub returns : goal.returns
returns c =
    let all : take c.loop-j.j-index c.arcs-j-items.result.now ≡ c.args.network.now.arcs =
    take_all c.loop-j.j-index c.arcs-j-items.result.now (omega (arith, c.loop-j-test.false))
    ∙ c.arcs-j-items.ensures.value in
    subst (λ (arcs : List (ℕ × ℕ)). AreInDegrees (count_of c.args.network.now) arcs c.loop-j.waits.items) all c.loop-j.invariant
