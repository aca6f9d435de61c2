use Rattle.std.proofs.Common.{ℕ, Bool, ◌≤◌, List, length, refl, sym, subst}
use Rattle.plan_net.specs.Network.{IsLeast}
use Rattle.plan_net.specs.Placed.{IsPlaced, IsOpen}
use Rattle.plan_net.specs.Trails.{IsCaughtOpen}
use Rattle.plan_net.proofs.CaughtLemmas.{IsCaughtOpen-from_turns}
use Rattle.plan_net.proofs.PathLemmas.{IsCycle-from_named}
use Rattle.plan_net.proofs.SoundLemmas.{sound_from_turns, least_caught}
use Rattle.plan_net.proofs.network.ordered.Goals as goal

pub invariant_of-result : goal.invariant_of-result
invariant_of-result c =
    sound_from_turns c.args.arcs c.in_ok-order.order.items c.in_ok-order.placed.items c.requires c.in_ok-order.ensures.order
    (subst (λ (placed : List Bool). (j : ℕ) → 1 ≤ j → j ≤ length placed → IsPlaced placed j) c.deref.ensures.value c.in-None.ensures.none)

pub named_cycle-requires-clause-caught : goal.named_cycle-requires-clause-caught
named_cycle-requires-clause-caught c =
    subst (IsCaughtOpen c.args.arcs) (sym c.deref-in-Some.ensures.value)
    (IsCaughtOpen-from_turns c.args.arcs c.in_ok-order.order.items c.in_ok-order.placed.items c.requires c.in_ok-order.ensures.order c.in_ok-order.ensures.stuck)

pub named_cycle-requires-clause-first : goal.named_cycle-requires-clause-first
named_cycle-requires-clause-first c =
    least_caught c.args.arcs c.in_ok-order.placed.items c.in-Some.first c.in_ok-order.ensures.order.whole
    (IsCaughtOpen-from_turns c.args.arcs c.in_ok-order.order.items c.in_ok-order.placed.items c.requires c.in_ok-order.ensures.order c.in_ok-order.ensures.stuck)
    (subst (λ (placed : List Bool). IsLeast (λ h. (1 ≤ h) × (h ≤ length placed) × IsOpen placed h) c.in-Some.first) c.deref.ensures.value c.in-Some.ensures.some)

pub returns-in-None-clause-accepted : goal.returns-in-None-clause-accepted
returns-in-None-clause-accepted c = (
  refl,
  (sound_from_turns c.args.arcs c.in_ok-order.order.items c.in_ok-order.placed.items c.requires c.in_ok-order.ensures.order
      (subst (λ (placed : List Bool). (j : ℕ) → 1 ≤ j → j ≤ length placed → IsPlaced placed j) c.deref.ensures.value c.in-None.ensures.none)).0,
)

pub returns-in_ok-named_cycle-in-Some-clause-cycle : goal.returns-in_ok-named_cycle-in-Some-clause-cycle
returns-in_ok-named_cycle-in-Some-clause-cycle c = IsCycle-from_named c.args.arcs c.in_ok-named_cycle-in-Some.field-0.items c.requires c.in_ok-named_cycle-in-Some.ensures
