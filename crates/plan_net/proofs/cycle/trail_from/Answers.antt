use Rattle.std.proofs.Common.{ℕ, true, false, ◌≡◌, ◌+◌, ◌-◌, ◌<◌, List, length, get_or, set, sym, ◌∙◌, subst, arith, ◌↔◌}
use Rattle.std.specs.List.{Contains}
use Rattle.std.proofs.lemmas.Bool.{false≢true}
use Rattle.std.proofs.lemmas.List.{get_or_read, length-set}
use Rattle.plan_net.specs.Network.{count_of, IsActivity}
use Rattle.plan_net.specs.Placed.{IsPlaced, open_count}
use Rattle.plan_net.specs.Trails.{IsTrail}
use Rattle.plan_net.proofs.TurnLemmas.{open_count-set, marks_push}
use Rattle.plan_net.proofs.TrailLemmas.{IsTrail-push, least_before}
use Rattle.plan_net.proofs.cycle.trail_from.Goals as goal

pub unreachable-requires : goal.unreachable-requires
unreachable-requires c =
    let here = (c.requires.caught c.loop-met.at).0 c.loop-met.invariant.caught in
    let pred = c.requires.stuck c.loop-met.at here.0 here.1 in
    false≢true (sym pred.2 ∙ c.in-None.ensures.none pred.0 pred.1)

pub loop-met-smaller : goal.loop-met-smaller
loop-met-smaller c =
    let here = (c.requires.caught c.loop-met.at).0 c.loop-met.invariant.caught in
    let whole : length c.loop-met.met.items ≡ count_of c.args.arcs.now = c.loop-met.invariant.whole in
    let within : c.loop-met.at - 1 < length c.loop-met.met.items = omega (arith, here.0) in
    let unmet : get_or c.loop-met.met.items (c.loop-met.at - 1) false ≡ false =
    sym (get_or_read c.loop-met.met.items (c.loop-met.at - 1) c.index.result.now within c.index.ensures
    false) ∙ c.loop-met-test.true in
    let falls : open_count (set c.loop-met.met.items (c.loop-met.at - 1) true) + 1 ≡ open_count c.loop-met.met.items = open_count-set c.loop-met.met.items (c.loop-met.at - 1) within unmet in
    omega (arith, falls)

pub loop-met-preserved : goal.loop-met-preserved
loop-met-preserved c =
    let net = c.args.arcs.now in
    let trail = c.loop-met.trail.items in
    let met = c.loop-met.met.items in
    let inv = c.loop-met.invariant in
    let here = (c.requires.caught c.loop-met.at).0 inv.caught in
    let whole : length c.loop-met.met.items ≡ count_of c.args.arcs.now = inv.whole in
    let within : c.loop-met.at - 1 < length c.loop-met.met.items = omega (arith, here.0) in
    let unmet : get_or met (c.loop-met.at - 1) false ≡ false = sym (get_or_read met (c.loop-met.at - 1) c.index.result.now within c.index.ensures false) ∙ c.loop-met-test.true in
    let fresh : Contains trail c.loop-met.at → ⊥ = λ has. false≢true (sym unmet ∙ (inv.marks c.loop-met.at here.0).1 has) in
    let pred = c.in-Some.ensures.some in
    let before = least_before net c.args.placed.now c.loop-met.at c.in-Some.i c.len.ensures.limits c.requires.caught pred in
    record {
      trail = subst (λ (list : List ℕ). IsTrail net list c.in-Some.i) (sym c.in_ok-push.ensures.items) (IsTrail-push net trail c.loop-met.at c.in-Some.i inv.trail fresh before);
      caught = before.0.0;
      whole = length-set met (c.loop-met.at - 1) true ∙ whole;
      marks = subst (λ (list : List ℕ). (j : ℕ) → IsActivity net j → IsPlaced (set met (c.loop-met.at - 1) true) j ↔ Contains list j) (sym c.in_ok-push.ensures.items)
          (marks_push net trail met c.loop-met.at here.0 within inv.marks);
    }

pub returns-clause-again : goal.returns-clause-again
returns-clause-again c =
    let here = (c.requires.caught c.loop-met.at).0 c.loop-met.invariant.caught in
    let whole : length c.loop-met.met.items ≡ count_of c.args.arcs.now = c.loop-met.invariant.whole in
    let within : c.loop-met.at - 1 < length c.loop-met.met.items = omega (arith, here.0) in
    let is_met : get_or c.loop-met.met.items (c.loop-met.at - 1) false ≡ true =
    sym (get_or_read c.loop-met.met.items (c.loop-met.at - 1) c.index.result.now within c.index.ensures
    false) ∙ c.loop-met-test.false in
    (c.loop-met.invariant.marks c.loop-met.at here.0).0 is_met
