use Rattle.std.proofs.Common.{ℕ, ◌≡◌, ◌<◌, ◌≤◌, List, ◌++◌, ◌-◌, length, get_or, take, drop, reverse, sym, ◌∙◌, ap, subst}
use Rattle.std.proofs.lemmas.List.{take_rest}
use Rattle.plan_net.specs.Cycle.{IsNamedCycle}
use Rattle.plan_net.proofs.RingLemmas.{IsBackRing-from_trail, IsNamedCycle-from_back_ring}
use Rattle.plan_net.proofs.cycle.named_cycle.Goals as goal

pub returns : goal.returns
returns c =
    let trail = c.in_ok-trail.trail.items in
    let from = c.place_of_met-from.result in
    let read : c.deref.result.now ≡ trail = c.deref.ensures.value in
    let within : from < length trail = subst (λ (xs : List ℕ). from < length xs) read c.place_of_met-from.ensures.within in
    let found : get_or trail from 0 ≡ c.in_ok-trail.at = subst (λ (xs : List ℕ). get_or xs from 0 ≡ c.in_ok-trail.at) read c.place_of_met-from.ensures.found in
    let copied : c.in_ok-members.members.items ≡ drop from trail =
    c.in_ok-members.ensures.items_if_clones_equal (λ y z e. e) ∙ ap (λ (xs : List ℕ). take (length xs - from) (drop from xs)) c.deref-2.ensures.value ∙ take_rest trail from in
    let turned : c.reverse.new.self.items ≡ reverse (drop from trail) = c.reverse.ensures.items ∙ ap reverse copied in
    let m = c.place_of_least-least.result in
    let members : c.deref-3.result.now ≡ reverse (drop from trail) = c.deref-3.ensures.value ∙ turned in
    let least = subst (λ (xs : List ℕ). (m < length xs)
    × ((k : ℕ) → k < length xs → get_or xs m 0 ≤ get_or xs k 0)) members
    (c.place_of_least-least.ensures.within, c.place_of_least-least.ensures.least) in
    let rotated : c.rotate_left.new.self.items ≡ drop m (reverse (drop from trail))
    ++ take m (reverse (drop from trail)) = c.rotate_left.ensures.items
    ∙ ap (λ (xs : List ℕ). drop m xs ++ take m xs) turned in
    subst (IsNamedCycle c.args.arcs.now) (sym rotated)
    (IsNamedCycle-from_back_ring c.args.arcs.now (drop from trail) m (IsBackRing-from_trail c.args.arcs.now trail c.in_ok-trail.at from c.in_ok-trail.ensures.trail within found) least.0 least.1)
