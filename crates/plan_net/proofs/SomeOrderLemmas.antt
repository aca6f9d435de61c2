-- A network within the limits has a least order, or a named cycle.
use Rattle.std.proofs.Common.{ℕ, suc, zero, Bool, true, false, ◌≡◌, ◌+◌, ◌-◌, ◌≤◌, ◌<◌, ◌↔◌, ◌⊎◌, inl, inr, List, [], ◌∷◌, ◌++◌, length, get_or, set, drop, take, reverse, replicate, refl, sym, ◌∙◌, ap, subst, arith}
use Rattle.std.specs.List.{Contains}
use Rattle.std.proofs.lemmas.List.{length-set, length_push, length-append, length-drop, length-take, length-reverse}
use Rattle.std.proofs.lemmas.Bool.{cases_Bool, cases_eq, cases_lt, false≢true}
use Rattle.plan_net.specs.Network.{Net, count_of, IsActivity, IsArc, IsLeast}
use Rattle.plan_net.specs.Order.{IsLeastOrder}
use Rattle.plan_net.specs.Cycle.{IsCaught, IsNamedCycle}
use Rattle.plan_net.specs.Limits.{IsWithinLimits, IsSound}
use Rattle.plan_net.specs.Placed.{IsPlaced, IsOpen, IsReady, open_count, IsPlacedOrder, IsStuck}
use Rattle.plan_net.specs.Trails.{IsCaughtOpen, IsTrail}
use Rattle.plan_net.proofs.SearchLemmas.{Decided, decide_both, least_below, some_element, place_of_least}
use Rattle.plan_net.proofs.RowLemmas.{arc_ends}
use Rattle.plan_net.proofs.RisingLemmas.{place_in}
use Rattle.plan_net.proofs.TurnLemmas.{IsPlacedOrder-nil, IsPlacedOrder-push, marks_push, none_open, open_count-set}
use Rattle.plan_net.proofs.TrailLemmas.{IsTrail-push, least_before}
use Rattle.plan_net.proofs.RingLemmas.{IsBackRing-from_trail, IsNamedCycle-from_back_ring}
use Rattle.plan_net.proofs.CaughtLemmas.{IsCaughtOpen-from_turns}
use Rattle.plan_net.proofs.PathLemmas.{IsCycle-from_named}
use Rattle.plan_net.proofs.SoundLemmas.{sound_from_turns, least_caught}

-- ---- decisions by marks and arcs

-- an activity is one of the network's, or not
pub decide_activity : (net : Net) (j : ℕ) → Decided (IsActivity net j)
decide_activity net j = decide_both (1 ≤ j) (j ≤ count_of net) (by_low (cases_lt 0 j)) (λ low. by_high (cases_lt (count_of net) j))
  where
    by_low : (0 < j) ⊎ (j ≤ 0) → Decided (1 ≤ j)
    by_low (inl some) = inl (omega (arith, some))
    by_low (inr none) = inr (λ low. omega (arith, none, low))

    by_high : (count_of net < j) ⊎ (j ≤ count_of net) → Decided (j ≤ count_of net)
    by_high (inl past) = inr (λ high. omega (arith, past, high))
    by_high (inr high) = inl high

decide_open : (placed : List Bool) (j : ℕ) → Decided (IsOpen placed j)
decide_open placed j = by_mark (cases_Bool (get_or placed (j - 1) false))
  where
    by_mark : (get_or placed (j - 1) false ≡ true) ⊎ (get_or placed (j - 1) false ≡ false) → Decided (IsOpen placed j)
    by_mark (inl marked) = inr (λ is_open. false≢true (sym is_open ∙ marked))
    by_mark (inr unmarked) = inl unmarked

-- there is an arc from one activity to another, or none
pub decide_arc : (net : Net) (i j : ℕ) → Decided (IsArc net i j)
decide_arc net i j = by_search (some_element (λ arc. (arc.0 ≡ i) × (arc.1 ≡ j)) (λ arc. decide_both (arc.0 ≡ i) (arc.1 ≡ j) (cases_eq arc.0 i) (λ _. cases_eq arc.1 j)) net.arcs)
  where
    by_search : ((arc : ℕ × ℕ) × Contains net.arcs arc × ((arc.0 ≡ i) × (arc.1 ≡ j))) ⊎ ((arc : ℕ × ℕ) → Contains net.arcs arc → (arc.0 ≡ i) × (arc.1 ≡ j) → ⊥)
        → Decided (IsArc net i j)
    by_search (inl (arc, has, same)) = inl (subst (λ (k : ℕ). IsArc net i k) same.1 (subst (λ (h : ℕ). IsArc net h arc.1) same.0 has))
    by_search (inr none) = inr (λ has. none (i, j) has (refl, refl))

-- an activity has an open predecessor, or all its predecessors are placed
open_before : (net : Net) (placed : List Bool) (j : ℕ)
    → ((i : ℕ) × IsArc net i j × IsOpen placed i) ⊎ ((i : ℕ) → IsArc net i j → IsPlaced placed i)
open_before net placed j = by_search (some_element (λ arc. (arc.1 ≡ j) × IsOpen placed arc.0)
    (λ arc. decide_both (arc.1 ≡ j) (IsOpen placed arc.0) (cases_eq arc.1 j) (λ _. decide_open placed arc.0))
    net.arcs)
  where
    by_search : ((arc : ℕ × ℕ) × Contains net.arcs arc × ((arc.1 ≡ j) × IsOpen placed arc.0)) ⊎ ((arc : ℕ × ℕ) → Contains net.arcs arc → (arc.1 ≡ j) × IsOpen placed arc.0 → ⊥)
        → ((i : ℕ) × IsArc net i j × IsOpen placed i) ⊎ ((i : ℕ) → IsArc net i j → IsPlaced placed i)
    by_search (inl (arc, has, (same, is_open))) = inl (arc.0, subst (λ (k : ℕ). IsArc net arc.0 k) same has, is_open)
    by_search (inr none) = inr (λ i arc. by_mark i arc (cases_Bool (get_or placed (i - 1) false)))
      where
        by_mark : (i : ℕ) → IsArc net i j → (get_or placed (i - 1) false ≡ true) ⊎ (get_or placed (i - 1) false ≡ false) → IsPlaced placed i
        by_mark i arc (inl marked) = marked
        by_mark i arc (inr unmarked) = absurd (none (i, j) arc (refl, unmarked))

decide_ready : (net : Net) (placed : List Bool) (j : ℕ) → Decided (IsReady net placed j)
decide_ready net placed j = by_parts (decide_activity net j) (decide_open placed j) (open_before net placed j)
  where
    by_parts : Decided (IsActivity net j) → Decided (IsOpen placed j) → ((i : ℕ) × IsArc net i j × IsOpen placed i) ⊎ ((i : ℕ) → IsArc net i j → IsPlaced placed i)
        → Decided (IsReady net placed j)
    by_parts (inr none) is_open before = inr (λ ready. none ready.0)
    by_parts (inl activity) (inr marked) before = inr (λ ready. marked ready.1)
    by_parts (inl activity) (inl is_open) (inl (i, arc, waits)) = inr (λ ready. false≢true (sym waits ∙ ready.2 i arc))
    by_parts (inl activity) (inl is_open) (inr all) = inl (activity, is_open, all)

-- ---- the search for an order

-- an order, its marks, and the fact that no further activity can come
record Turns (net : Net) : Type 0 where
  order : List ℕ
  placed : List Bool
  turns : IsPlacedOrder net order placed
  stuck : IsStuck net placed

-- if no activity is ready, each open one has an open predecessor
stuck_at : (net : Net) (placed : List Bool) → ((n : ℕ) → n < suc (count_of net) → IsReady net placed n → ⊥) → IsStuck net placed
stuck_at net placed none j activity is_open = by_before (open_before net placed j)
  where
    by_before : ((i : ℕ) × IsArc net i j × IsOpen placed i) ⊎ ((i : ℕ) → IsArc net i j → IsPlaced placed i) → (i : ℕ) × IsArc net i j × IsOpen placed i
    by_before (inl waits) = waits
    by_before (inr all) = absurd (none j (omega (arith, activity)) (activity, is_open, all))

-- if an activity is ready it is placed, otherwise the search ends
next_turn : (net : Net) (order : List ℕ) (placed : List Bool) → IsPlacedOrder net order placed → ((j : ℕ) → IsLeast (IsReady net placed) j → Turns net) → Turns net
next_turn net order placed so_far place = by_search (least_below (IsReady net placed) (decide_ready net placed) (suc (count_of net)))
  where
    by_search : ((j : ℕ) × IsLeast (IsReady net placed) j) ⊎ ((j : ℕ) → j < suc (count_of net) → IsReady net placed j → ⊥) → Turns net
    by_search (inr none) = record { order = order; placed = placed; turns = so_far; stuck = stuck_at net placed none }
    by_search (inl (j, ready)) = place j ready

-- the mark of a ready activity
ready_within : (net : Net) (order : List ℕ) (placed : List Bool) (j : ℕ) → IsPlacedOrder net order placed → IsReady net placed j → j - 1 < length placed
ready_within net order placed j so_far ready =
    let whole : length placed ≡ count_of net = so_far.whole in omega (arith, ready.0, whole)

-- at most n open activities are placed, one after another
turns_from : (net : Net) → IsWithinLimits net → (n : ℕ) (order : List ℕ) (placed : List Bool) → IsPlacedOrder net order placed → open_count placed ≤ n → Turns net
turns_from net limits zero order placed so_far few =
    next_turn net order placed so_far (λ j ready.
    absurd (false≢true (sym ready.0.1 ∙ none_open placed (omega (arith, few)) (j - 1) (ready_within net order placed j so_far ready.0))))
turns_from net limits (suc n) order placed so_far few =
    next_turn net order placed so_far (λ j ready.
    let falls : open_count (set placed (j - 1) true) + 1 ≡ open_count placed = open_count-set placed (j - 1) (ready_within net order placed j so_far ready.0) ready.0.1 in
    turns_from net limits n (order ++ j ∷ []) (set placed (j - 1) true) (IsPlacedOrder-push net order placed j limits so_far ready) (omega (arith, falls, few)))

some_turns : (net : Net) → IsWithinLimits net → Turns net
some_turns net limits =
    turns_from net limits (open_count (replicate (count_of net) false)) [] (replicate (count_of net) false) (IsPlacedOrder-nil net (count_of net) refl) (omega arith)

-- ---- the walk back

-- a trail, the activity that recurs, and its index
record Loop (net : Net) : Type 0 where
  trail : List ℕ
  at : ℕ
  walked : IsTrail net trail at
  short : length trail ≤ count_of net
  place : ℕ
  within : place < length trail
  found : get_or trail place 0 ≡ at

-- marks on the members of a trail
record AreMet (net : Net) (trail : List ℕ) (met : List Bool) : Type 0 where
  whole : length met ≡ count_of net
  counted : length trail + open_count met ≡ count_of net
  marks : (j : ℕ) → IsActivity net j → IsPlaced met j ↔ Contains trail j

module _ (net : Net) (limits : IsWithinLimits net) (placed : List Bool) (caught : IsCaughtOpen net placed) (stuck : IsStuck net placed) where
  -- before each caught activity there is a least open one
  some_before : (at : ℕ) → IsCaught net at → (i : ℕ) × IsLeast (λ h. IsArc net h at × IsOpen placed h) i
  some_before at is = by_search (least_below (λ h. IsArc net h at × IsOpen placed h)
      (λ h. decide_both (IsArc net h at) (IsOpen placed h) (decide_arc net h at) (λ _. decide_open placed h))
      (suc (count_of net)))
    where
      here : IsActivity net at × IsOpen placed at
      here = (caught at).0 is

      by_search : ((i : ℕ) × IsLeast (λ h. IsArc net h at × IsOpen placed h) i) ⊎ ((h : ℕ) → h < suc (count_of net) → IsArc net h at × IsOpen placed h → ⊥)
          → (i : ℕ) × IsLeast (λ h. IsArc net h at × IsOpen placed h) i
      by_search (inl found) = found
      by_search (inr none) =
          let pred = stuck at here.0 here.1 in
          absurd (none pred.0 (omega (arith, (arc_ends net pred.0 at limits pred.1).0)) (pred.1, pred.2))

  -- if an activity recurs the walk ends, otherwise it continues
  next_step : (trail : List ℕ) (at : ℕ) (met : List Bool) → IsTrail net trail at → IsCaught net at → AreMet net trail met
      → (get_or met (at - 1) false ≡ false → Loop net) → Loop net
  next_step trail at met walked is are go_on = by_mark (cases_Bool (get_or met (at - 1) false))
    where
      by_mark : (get_or met (at - 1) false ≡ true) ⊎ (get_or met (at - 1) false ≡ false) → Loop net
      by_mark (inl again) =
          let place = place_in trail at ((are.marks at ((caught at).0 is).0).0 again) in
          record { trail = trail; at = at; walked = walked; short = omega (arith, are.counted); place = place.0; within = place.1; found = place.2 }
      by_mark (inr fresh) = go_on fresh

  met_within : (trail : List ℕ) (at : ℕ) (met : List Bool) → IsCaught net at → AreMet net trail met → at - 1 < length met
  met_within trail at met is are = omega (arith, ((caught at).0 is).0, are.whole)

  -- with at most n activities that the walk hasn't reached
  loop_from : (n : ℕ) (trail : List ℕ) (at : ℕ) (met : List Bool) → IsTrail net trail at → IsCaught net at → AreMet net trail met → open_count met ≤ n → Loop net
  loop_from zero trail at met walked is are few =
      next_step trail at met walked is are (λ fresh.
      absurd (false≢true (sym fresh ∙ none_open met (omega (arith, few)) (at - 1) (met_within trail at met is are))))
  loop_from (suc n) trail at met walked is are few =
      next_step trail at met walked is are (λ fresh.
      let within = met_within trail at met is are in
      let activity = ((caught at).0 is).0 in
      let pred = some_before at is in
      let before = least_before net placed at pred.0 limits caught pred.1 in
      let new : Contains trail at → ⊥ = λ has. false≢true (sym fresh ∙ (are.marks at activity).1 has) in
      let falls : open_count (set met (at - 1) true) + 1 ≡ open_count met = open_count-set met (at - 1) within fresh in
      loop_from n (trail ++ at ∷ []) pred.0 (set met (at - 1) true) (IsTrail-push net trail at pred.0 walked new before) before.0.0
      (record {
        whole = length-set met (at - 1) true ∙ are.whole;
        counted = omega (arith, length_push trail at, falls, are.counted);
        marks = marks_push net trail met at activity within are.marks;
      }) (omega (arith, falls, few)))

  some_loop : (first : ℕ) → IsLeast (IsCaught net) first → Loop net
  some_loop first least =
      let none = IsPlacedOrder-nil net (count_of net) refl in
      loop_from (open_count (replicate (count_of net) false)) [] first (replicate (count_of net) false)
      (record { once = λ a b lower within. absurd (omega (arith, within)); steps = λ k within. absurd (omega (arith, within)); next = least })
      least.0 (record { whole = none.whole; counted = none.counted; marks = none.marks }) (omega arith)

-- ---- the order, or the cycle

-- a named cycle, with no more members than there are activities
abbrev pub SomeCycle : Net → Type 0
SomeCycle net = (members : List ℕ) × IsNamedCycle net members × (length members ≤ count_of net)

-- the ring that a trail closes, from its least member on
named_of : (net : Net) → Loop net → SomeCycle net
named_of net loop = by_ring (reverse (drop loop.place loop.trail)) refl
  where
    ring : List ℕ
    ring = drop loop.place loop.trail

    long : 0 < length (reverse ring)
    long = omega (arith, length-reverse ring, length-drop loop.place loop.trail, loop.within)

    by_ring : (back : List ℕ) → reverse ring ≡ back → SomeCycle net
    by_ring [] is = absurd (omega (arith, long, ap length is))
    by_ring (first ∷ others) is =
        let least = place_of_least first others in
        let least' = subst (λ (xs : List ℕ). (least.0 < length xs) × ((k : ℕ) → k < length xs → get_or xs least.0 0 ≤ get_or xs k 0)) (sym is) (least.1, least.2) in (
          drop least.0 (reverse ring) ++ take least.0 (reverse ring),
          IsNamedCycle-from_back_ring net ring least.0 (IsBackRing-from_trail net loop.trail loop.at loop.place loop.walked loop.within loop.found) least'.0 least'.1,
          omega (
            arith,
            length-append (drop least.0 (reverse ring))
                (take least.0 (reverse ring)),
            length-drop least.0 (reverse ring),
            length-take least.0
                (reverse ring),
            length-reverse ring,
            length-drop loop.place loop.trail,
            loop.short,
          ),
        )

-- a network within the limits is sound and has a least order, or it has a named cycle
pub some_order : (net : Net) → IsWithinLimits net → (IsSound net × ((order : List ℕ) × IsLeastOrder net order)) ⊎ SomeCycle net
some_order net limits = by_turns (some_turns net limits)
  where
    IsLeft : List Bool → ℕ → Type 0
    IsLeft placed h = (1 ≤ h) × (h ≤ length placed) × IsOpen placed h

    decide_left : (placed : List Bool) (h : ℕ) → Decided (IsLeft placed h)
    decide_left placed h = by_open (cases_lt 0 h) (cases_lt (length placed) h) (decide_open placed h)
      where
        by_open : (0 < h) ⊎ (h ≤ 0) → (length placed < h) ⊎ (h ≤ length placed) → Decided (IsOpen placed h) → Decided (IsLeft placed h)
        by_open (inr none) high is_open = inr (λ left. omega (arith, none, left.0))
        by_open (inl some) (inl past) is_open = inr (λ left. omega (arith, past, left.1))
        by_open (inl some) (inr high) (inr marked) = inr (λ left. marked left.2)
        by_open (inl some) (inr high) (inl is_open) = inl (omega (arith, some), high, is_open)

    by_turns : Turns net → (IsSound net × ((order : List ℕ) × IsLeastOrder net order)) ⊎ SomeCycle net
    by_turns t = by_first (least_below (IsLeft t.placed) (decide_left t.placed) (suc (length t.placed)))
      where
        placed_at : ((h : ℕ) → h < suc (length t.placed) → IsLeft t.placed h → ⊥) → (j : ℕ) → 1 ≤ j → j ≤ length t.placed → IsPlaced t.placed j
        placed_at none j low high = by_mark (cases_Bool (get_or t.placed (j - 1) false))
          where
            by_mark : (get_or t.placed (j - 1) false ≡ true) ⊎ (get_or t.placed (j - 1) false ≡ false) → IsPlaced t.placed j
            by_mark (inl marked) = marked
            by_mark (inr unmarked) = absurd (none j (omega (arith, high)) (low, high, unmarked))

        by_first : ((h : ℕ) × IsLeast (IsLeft t.placed) h) ⊎ ((h : ℕ) → h < suc (length t.placed) → IsLeft t.placed h → ⊥)
            → (IsSound net × ((order : List ℕ) × IsLeastOrder net order)) ⊎ SomeCycle net
        by_first (inr none) =
            let sound = sound_from_turns net t.order t.placed limits t.turns (placed_at none) in
            inl (sound.0, (t.order, sound.1))
        by_first (inl (first, least)) =
            let caught = IsCaughtOpen-from_turns net t.order t.placed limits t.turns t.stuck in
            inr (named_of net (some_loop net limits t.placed caught t.stuck first (least_caught net t.placed first t.turns.whole caught least)))

-- a sound network has a least order
pub order_of_sound : (net : Net) → IsSound net → (order : List ℕ) × IsLeastOrder net order
order_of_sound net sound = by_order (some_order net sound.limits)
  where
    by_order : (IsSound net × ((order : List ℕ) × IsLeastOrder net order)) ⊎ SomeCycle net → (order : List ℕ) × IsLeastOrder net order
    by_order (inl ordered) = ordered.1
    by_order (inr (members, named, short)) = absurd (sound.acyclic _ _ (IsCycle-from_named net members sound.limits named))
