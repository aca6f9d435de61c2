use Rattle.std.proofs.Common.{ℕ, Bool, true, false, ◌≡◌, ◌+◌, ◌-◌, ◌<◌, List, [], length, set, replicate, sym, subst, arith}
use Rattle.plan_net.specs.Network.{count_of, IsLeast}
use Rattle.plan_net.specs.Placed.{IsReady, IsPlacedOrder, IsStuckBelow, IsStuckBelowBut, open_count}
use Rattle.plan_net.proofs.TurnLemmas.{IsPlacedOrder-nil, IsPlacedOrder-push, IsStuckBelow-first, IsStuckBelowBut-placed, open_count-set}
use Rattle.plan_net.proofs.order.least_order.Goals.{In-Some}
use Rattle.plan_net.proofs.order.least_order.Goals as goal

-- the activity that comes next
ready : (c : In-Some) → IsLeast (IsReady c.args.arcs.now c.loop-j.placed.items) c.in-Some.j
ready c = subst (λ (placed : List Bool). IsLeast (IsReady c.args.arcs.now placed) c.in-Some.j) c.deref.ensures.value c.in-Some.ensures.some

pub loop-j-init : goal.loop-j-init
loop-j-init c =
    let marks : c.in_ok-placed.placed.items ≡ replicate c.len.result false = c.in_ok-placed.ensures.items_if_clones_equal (λ y e. e) in
    record {
      order = subst (λ (order : List ℕ). IsPlacedOrder c.args.arcs.now order c.in_ok-placed.placed.items) (sym c.new-order.ensures.items)
          (subst (λ (placed : List Bool). IsPlacedOrder c.args.arcs.now [] placed) (sym marks) (IsPlacedOrder-nil c.args.arcs.now c.len.result c.len.ensures.count));
      first = omega arith;
      below = IsStuckBelow-first c.args.arcs.now c.in_ok-placed.placed.items;
    }

pub next_from-first-requires-clause-below : goal.next_from-first-requires-clause-below
next_from-first-requires-clause-below c =
    let below : IsStuckBelow c.args.arcs.now c.loop-j.placed.items c.in-Some.j =
    subst (λ (placed : List Bool). IsStuckBelow c.args.arcs.now placed c.in-Some.j) c.deref.ensures.value
    c.in-Some.ensures.below in
    subst (λ (placed : List Bool). IsStuckBelowBut c.args.arcs.now placed c.in-Some.j) (sym c.deref-in-Some.ensures.value)
    (IsStuckBelowBut-placed c.args.arcs.now c.loop-j.placed.items c.in-Some.j c.len.ensures.limits (ready (goal.at.next_from-first-requires-clause-below c).In-Some).0.0 below)

pub loop-j-smaller : goal.loop-j-smaller
loop-j-smaller c =
    let here = ready (goal.at.loop-j-smaller c).In-Some in
    let whole : length c.loop-j.placed.items ≡ count_of c.args.arcs.now = c.loop-j.invariant.order.whole in
    let within : c.in-Some.j - 1 < length c.loop-j.placed.items = omega (arith, here.0.0) in
    let falls : open_count (set c.loop-j.placed.items (c.in-Some.j - 1) true) + 1 ≡ open_count c.loop-j.placed.items = open_count-set c.loop-j.placed.items (c.in-Some.j - 1) within here.0.1 in
    omega (arith, falls)

pub loop-j-preserved : goal.loop-j-preserved
loop-j-preserved c = record {
  order = subst (λ (order : List ℕ). IsPlacedOrder c.args.arcs.now order (set c.loop-j.placed.items (c.in-Some.j - 1) true)) (sym c.in_ok-push.ensures.items)
      (IsPlacedOrder-push c.args.arcs.now c.loop-j.order.items c.loop-j.placed.items c.in-Some.j c.len.ensures.limits c.loop-j.invariant.order (ready (goal.at.loop-j-preserved c).In-Some));
  first = c.next_from-first.ensures.first;
  below = subst (λ (placed : List Bool). IsStuckBelow c.args.arcs.now placed c.next_from-first.result) c.deref-in-Some.ensures.value c.next_from-first.ensures.below;
}
