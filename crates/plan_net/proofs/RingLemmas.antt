-- The ring that the walk closes, and its members along the arcs.
use Rattle.std.proofs.Common.{ℕ, suc, zero, ◌≡◌, ◌≢◌, ◌+◌, ◌-◌, ◌≤◌, ◌<◌, ◌↔◌, ◌⊎◌, inl, inr, List, ◌++◌, length, get_or, take, drop, reverse, sym, ◌∙◌, ap, subst, arith}
use Rattle.std.specs.List.{Contains}
use Rattle.std.proofs.lemmas.List.{length-drop, length-take, length-append, length-reverse, get_or-drop, get_or-take, get_or_append_left, get_or-append_right, get_or-reverse}
use Rattle.std.proofs.lemmas.List.{take-append-drop}
use Rattle.std.proofs.lemmas.List.Sorted.{IsPermutation-reverse, IsPermutation-sym, IsPermutation-append_comm, Contains-permutation}
use Rattle.std.proofs.lemmas.Bool.{cases_lt, cases_eq}
use Rattle.plan_net.specs.Network.{Net, IsArc}
use Rattle.plan_net.specs.Cycle.{IsCaught, IsLeastCaughtBefore, Comes, Recurs, IsNamedCycle}
use Rattle.plan_net.specs.Trails.{IsTrail, IsBackRing}
use Rattle.plan_net.proofs.RisingLemmas.{stands_in, place_in, least_once}
use Rattle.plan_net.proofs.TrailLemmas.{comes_once, step_from}

-- a walk on a ring reaches each member again after any number of steps
again : (net : Net) (ring : List ℕ) (from : ℕ) → 1 ≤ length ring → Comes net from (get_or ring 0 0) →
    ((k : ℕ) → k + 1 < length ring → IsLeastCaughtBefore net (get_or ring k 0) (get_or ring (k + 1) 0)) →
    IsLeastCaughtBefore net (get_or ring (length ring - 1) 0) (get_or ring 0 0) → (steps k : ℕ) →
    k < length ring → (later : ℕ) × (steps ≤ later) × Comes net later (get_or ring k 0)
again net ring from some start along around zero zero within = (from, omega arith, start)
again net ring from some start along around zero (suc k) within =
    let before = again net ring from some start along around zero k (omega arith) in
    let same : k + 1 ≡ suc k = omega arith in
    (suc before.0, omega arith, (get_or ring k 0, before.2, subst (λ (x : ℕ). IsLeastCaughtBefore net (get_or ring k 0) (get_or ring x 0)) same (along k (omega arith))))
again net ring from some start along around (suc steps) zero within =
    let before = again net ring from some start along around steps (length ring - 1) (omega arith) in
    (suc before.0, omega (arith, before.1), (get_or ring (length ring - 1) 0, before.2, around))
again net ring from some start along around (suc steps) (suc k) within =
    let before = again net ring from some start along around (suc steps) k (omega arith) in
    let same : k + 1 ≡ suc k = omega arith in
    (suc before.0, omega (arith, before.1), (get_or ring k 0, before.2, subst (λ (x : ℕ). IsLeastCaughtBefore net (get_or ring k 0) (get_or ring x 0)) same (along k (omega arith))))

-- each step from a member of a ring leads to a member
stays : (net : Net) (ring : List ℕ) (from : ℕ) → 1 ≤ length ring → Comes net from (get_or ring 0 0) →
    ((k : ℕ) → k + 1 < length ring → IsLeastCaughtBefore net (get_or ring k 0) (get_or ring (k + 1) 0)) →
    IsLeastCaughtBefore net (get_or ring (length ring - 1) 0) (get_or ring 0 0) → (more j : ℕ) →
    Comes net (from + more) j → (k : ℕ) × (k < length ring) × (get_or ring k 0 ≡ j)
stays net ring from some start along around zero j comes =
    let same : from + 0 ≡ from = omega arith in
    (0, omega arith, comes_once net from (get_or ring 0 0) j start (subst (λ (n : ℕ). Comes net n j) same comes))
stays net ring from some start along around (suc more) j comes =
    let same : from + suc more ≡ suc (from + more) = omega arith in
    let step = subst (λ (n : ℕ). Comes net n j) same comes in
    let here = stays net ring from some start along around more step.0 step.1 in
    let before : IsLeastCaughtBefore net (get_or ring here.0 0) j = subst (λ (x : ℕ). IsLeastCaughtBefore net x j) (sym here.2) step.2 in
    elim (cases_lt (here.0 + 1) (length ring)) [
      | inl lower ↦ (here.0 + 1, lower, least_once (λ g. IsCaught net g × IsArc net g (get_or ring here.0 0)) (get_or ring (here.0 + 1) 0) j (along here.0 lower) before)
      | inr higher ↦
          let last : here.0 ≡ length ring - 1 = omega (arith, here.1) in
          let before' : IsLeastCaughtBefore net (get_or ring (length ring - 1) 0) j = subst (λ (x : ℕ). IsLeastCaughtBefore net (get_or ring x 0) j) last before in
          (0, omega arith, least_once (λ g. IsCaught net g × IsArc net g (get_or ring (length ring - 1) 0)) (get_or ring 0 0) j around before')
    ]

-- the trail from the activity that recurs closes to a ring
pub IsBackRing-from_trail : (net : Net) (trail : List ℕ) (at from : ℕ) → IsTrail net trail at → from < length trail → get_or trail from 0 ≡ at → IsBackRing net (drop from trail)
IsBackRing-from_trail net trail at from walked within is = record {
  some = some;
  along = along;
  around = around;
  once = λ a b lower inside same. walked.once (from + a) (from + b) (omega arith) (omega (arith, long, inside)) (sym (get_or-drop from trail a 0) ∙ same ∙ get_or-drop from trail b 0);
  recurring = λ j. (λ has. recurs j (place_in (drop from trail) j has), λ always. comes_in j (always from));
} where
  long : length (drop from trail) ≡ length trail - from
  long = length-drop from trail

  some : 1 ≤ length (drop from trail)
  some = omega (arith, long, within)

  start : Comes net from (get_or (drop from trail) 0 0)
  start =
      let same : from + 0 ≡ from = omega arith in
      subst (Comes net from) (sym (get_or-drop from trail 0 0 ∙ ap (λ (k : ℕ). get_or trail k 0) same)) (walked.steps from within)

  along : (k : ℕ) → k + 1 < length (drop from trail) → IsLeastCaughtBefore net (get_or (drop from trail) k 0) (get_or (drop from trail) (k + 1) 0)
  along k lower =
      let here : from + k < length trail = omega (arith, long, lower) in
      let there : from + (k + 1) < length trail = omega (arith, long, lower) in
      let next : from + (k + 1) ≡ suc (from + k) = omega arith in
      let comes : Comes net (suc (from + k)) (get_or trail (from + (k + 1)) 0) = subst (λ (n : ℕ). Comes net n (get_or trail (from + (k + 1)) 0)) next (walked.steps (from + (k + 1)) there) in
      subst (λ (x : ℕ). IsLeastCaughtBefore net x (get_or (drop from trail) (k + 1) 0)) (sym (get_or-drop from trail k 0))
      (subst (λ (x : ℕ). IsLeastCaughtBefore net (get_or trail (from + k) 0) x) (sym (get_or-drop from trail (k + 1) 0))
      (step_from net (from + k) (get_or trail (from + k) 0) (get_or trail (from + (k + 1)) 0) (walked.steps (from + k) here) comes))

  around : IsLeastCaughtBefore net (get_or (drop from trail) (length (drop from trail) - 1) 0) (get_or (drop from trail) 0 0)
  around =
      let last : from + (length (drop from trail) - 1) ≡ length trail - 1 = omega (arith, long, within) in
      let whole : length trail ≡ suc (length trail - 1) = omega (arith, within) in
      let first : from + 0 ≡ from = omega arith in
      let comes : Comes net (suc (length trail - 1)) at = subst (λ (n : ℕ). Comes net n at) whole walked.next in
      let step : IsLeastCaughtBefore net (get_or trail (length trail - 1) 0) at =
      step_from net (length trail - 1) (get_or trail (length trail - 1) 0) at
      (walked.steps (length trail - 1) (omega (arith, within))) comes in
      subst (λ (x : ℕ). IsLeastCaughtBefore net x (get_or (drop from trail) 0 0)) (sym (get_or-drop from trail (length (drop from trail) - 1) 0 ∙ ap (λ (k : ℕ). get_or trail k 0) last))
      (subst (λ (x : ℕ). IsLeastCaughtBefore net (get_or trail (length trail - 1) 0) x) (sym (get_or-drop from trail 0 0 ∙ ap (λ (k : ℕ). get_or trail k 0) first ∙ is)) step)

  recurs : (j : ℕ) → (k : ℕ) × (k < length (drop from trail)) × (get_or (drop from trail) k 0 ≡ j) → Recurs net j
  recurs j (k, inside, same) steps = subst (λ (x : ℕ). (later : ℕ) × (steps ≤ later) × Comes net later x) same (again net (drop from trail) from some start along around steps k inside)

  comes_in : (j : ℕ) → (later : ℕ) × (from ≤ later) × Comes net later j → Contains (drop from trail) j
  comes_in j (later, higher, comes) =
      let parts : later ≡ from + (later - from) = omega arith in
      let place = stays net (drop from trail) from some start along around (later - from) j (subst (λ (n : ℕ). Comes net n j) parts comes) in
      stands_in (drop from trail) j place.0 place.1 place.2

-- a cycle along the arcs, from any member
record IsRing (net : Net) (ring : List ℕ) : Type 0 where
  some : 1 ≤ length ring
  along : (k : ℕ) → k + 1 < length ring → IsLeastCaughtBefore net (get_or ring (k + 1) 0) (get_or ring k 0)
  around : IsLeastCaughtBefore net (get_or ring 0 0) (get_or ring (length ring - 1) 0)
  once : (a b : ℕ) → a < b → b < length ring → get_or ring a 0 ≢ get_or ring b 0
  recurring : (j : ℕ) → Contains ring j ↔ Recurs net j

-- a ring against the arcs, reversed, is along the arcs
IsRing-reverse : (net : Net) (ring : List ℕ) → IsBackRing net ring → IsRing net (reverse ring)
IsRing-reverse net ring back = record {
  some = omega (arith, back.some, whole);
  along = λ k lower. along k (omega (arith, whole, lower));
  around = around;
  once = λ a b lower within same. back.once (length ring - 1 - b) (length ring - 1 - a)
      (omega (arith, whole, within, lower)) (omega (arith, whole, within, lower))
      (sym (at b (omega (arith, whole, within))) ∙ sym same ∙ at a (omega (arith, whole, within, lower)));
  recurring = λ j. (
    λ has. (back.recurring j).0 (Contains-permutation (reverse ring) ring j
        (IsPermutation-sym ring (reverse ring) (IsPermutation-reverse ring)) has),
    λ always.
        Contains-permutation ring (reverse ring) j (IsPermutation-reverse ring) ((back.recurring j).1 always),
  );
} where
  whole : length (reverse ring) ≡ length ring
  whole = length-reverse ring

  at : (k : ℕ) → k < length ring → get_or (reverse ring) k 0 ≡ get_or ring (length ring - 1 - k) 0
  at k within = get_or-reverse ring k 0 within

  along : (k : ℕ) → k + 1 < length ring → IsLeastCaughtBefore net (get_or (reverse ring) (k + 1) 0) (get_or (reverse ring) k 0)
  along k lower =
      let next : length ring - 1 - (k + 1) + 1 ≡ length ring - 1 - k = omega arith in
      let step : IsLeastCaughtBefore net (get_or ring (length ring - 1 - (k + 1)) 0) (get_or ring (length ring - 1 - (k + 1) + 1) 0) = back.along (length ring - 1 - (k + 1)) (omega arith) in
      subst (λ (x : ℕ). IsLeastCaughtBefore net x (get_or (reverse ring) k 0)) (sym (at (k + 1) lower))
      (subst (λ (x : ℕ). IsLeastCaughtBefore net (get_or ring (length ring - 1 - (k + 1)) 0) x) (sym (at k (omega arith) ∙ ap (λ (x : ℕ). get_or ring x 0) (sym next))) step)

  around : IsLeastCaughtBefore net (get_or (reverse ring) 0 0) (get_or (reverse ring) (length (reverse ring) - 1) 0)
  around =
      let some : 1 ≤ length ring = back.some in
      let first : length ring - 1 - 0 ≡ length ring - 1 = omega arith in
      let last : length ring - 1 - (length (reverse ring) - 1) ≡ 0 = omega (arith, whole) in
      subst (λ (x : ℕ). IsLeastCaughtBefore net x (get_or (reverse ring) (length (reverse ring) - 1) 0)) (sym (at 0 (omega arith) ∙ ap (λ (x : ℕ). get_or ring x 0) first))
      (subst (λ (x : ℕ). IsLeastCaughtBefore net (get_or ring (length ring - 1) 0) x) (sym (at (length (reverse ring) - 1) (omega (arith, whole)) ∙ ap (λ (x : ℕ). get_or ring x 0) last)) back.around)

-- a ring from one of its members on
turned : List ℕ → ℕ → List ℕ
turned ring m = drop m ring ++ take m ring

turned-long : (ring : List ℕ) (m : ℕ) → m < length ring → length (turned ring m) ≡ length ring
unfolding turned
turned-long ring m within = omega (arith, length-append (drop m ring) (take m ring), length-drop m ring, length-take m ring)

turned-low : (ring : List ℕ) (m k : ℕ) → k + m < length ring → get_or (turned ring m) k 0 ≡ get_or ring (k + m) 0
unfolding turned
turned-low ring m k lower =
    let inside : k < length (drop m ring) = omega (arith, length-drop m ring) in
    let same : m + k ≡ k + m = omega arith in
    get_or_append_left (drop m ring) (take m ring) 0 k inside ∙ get_or-drop m ring k 0 ∙ ap (λ (x : ℕ). get_or ring x 0) same

turned-high : (ring : List ℕ) (m k : ℕ) → m < length ring → k < length ring → length ring ≤ k + m → get_or (turned ring m) k 0 ≡ get_or ring (k + m - length ring) 0
unfolding turned
turned-high ring m k within lower higher =
    let same : k - (length ring - m) ≡ k + m - length ring = omega arith in
    get_or-append_right (drop m ring) (take m ring) (length ring - m) k 0 (length-drop m ring) (omega arith)
    ∙ get_or-take m ring (k - (length ring - m)) 0 (omega arith)
    ∙ ap (λ (x : ℕ). get_or ring x 0) same

-- the turned ring has the same members
turned_to : (ring : List ℕ) (m j : ℕ) → Contains ring j → Contains (turned ring m) j
unfolding turned
turned_to ring m j has =
    Contains-permutation (take m ring ++ drop m ring) (drop m ring ++ take m ring) j
    (IsPermutation-append_comm (take m ring) (drop m ring))
    (subst (λ (list : List ℕ). Contains list j) (sym (take-append-drop m ring)) has)

turned_from : (ring : List ℕ) (m j : ℕ) → Contains (turned ring m) j → Contains ring j
unfolding turned
turned_from ring m j has =
    subst (λ (list : List ℕ). Contains list j) (take-append-drop m ring)
    (Contains-permutation (drop m ring ++ take m ring) (take m ring ++ drop m ring) j
    (IsPermutation-append_comm (drop m ring) (take m ring)) has)

-- a ring along the arcs, from its least member on, is the named cycle
IsNamedCycle-turned : (net : Net) (ring : List ℕ) (m : ℕ) → IsRing net ring → m < length ring → ((k : ℕ) → k < length ring → get_or ring m 0 ≤ get_or ring k 0) → IsNamedCycle net (turned ring m)
IsNamedCycle-turned net ring m closed within lowest = record {
  some = omega (arith, whole, within);
  along = λ k lower. along k (omega (arith, whole, lower)) (cases_lt (k + 1 + m) (length ring)) (cases_lt (k + m) (length ring));
  around = around (cases_eq m 0);
  least = least;
  once = λ a b lower inside. once a b lower (omega (arith, whole, inside)) (cases_lt (a + m) (length ring)) (cases_lt (b + m) (length ring));
  recurring = λ j. (λ has. (closed.recurring j).0 (from j has), λ always. to j ((closed.recurring j).1 always));
} where
  whole : length (turned ring m) ≡ length ring
  whole = turned-long ring m within

  joined : (x y a b : ℕ) → a ≡ x → b ≡ y → IsLeastCaughtBefore net x y → IsLeastCaughtBefore net a b
  joined x y a b first second step = subst (λ (z : ℕ). IsLeastCaughtBefore net z b) (sym first) (subst (λ (z : ℕ). IsLeastCaughtBefore net x z) (sym second) step)

  along : (k : ℕ) → k + 1 < length ring → (k + 1 + m < length ring) ⊎ (length ring ≤ k + 1 + m) →
      (k + m < length ring) ⊎ (length ring ≤ k + m) →
      IsLeastCaughtBefore net (get_or (turned ring m) (k + 1) 0) (get_or (turned ring m) k 0)
  along k lower (inl low) w =
      let next : k + m + 1 ≡ k + 1 + m = omega arith in
      joined (get_or ring (k + m + 1) 0) (get_or ring (k + m) 0) _ _
      (turned-low ring m (k + 1) low ∙ ap (λ (x : ℕ). get_or ring x 0) (sym next))
      (turned-low ring m k (omega arith)) (closed.along (k + m) (omega arith))
  along k lower (inr high) (inl low) =
      let first : k + 1 + m - length ring ≡ 0 = omega arith in
      let last : k + m ≡ length ring - 1 = omega arith in
      joined (get_or ring 0 0) (get_or ring (length ring - 1) 0) _ _
      (turned-high ring m (k + 1) within lower high ∙ ap (λ (x : ℕ). get_or ring x 0) first)
      (turned-low ring m k low ∙ ap (λ (x : ℕ). get_or ring x 0) last) closed.around
  along k lower (inr high) (inr higher) =
      let next : k + m - length ring + 1 ≡ k + 1 + m - length ring = omega arith in
      joined (get_or ring (k + m - length ring + 1) 0) (get_or ring (k + m - length ring) 0) _ _
      (turned-high ring m (k + 1) within lower high ∙ ap (λ (x : ℕ). get_or ring x 0) (sym next))
      (turned-high ring m k within (omega arith) higher)
      (closed.along (k + m - length ring) (omega arith))

  first_is : get_or (turned ring m) 0 0 ≡ get_or ring m 0
  first_is = let same : 0 + m ≡ m = omega arith in turned-low ring m 0 (omega arith) ∙ ap (λ (x : ℕ). get_or ring x 0) same

  around : (m ≡ 0) ⊎ (m ≡ 0 → ⊥) → IsLeastCaughtBefore net (get_or (turned ring m) 0 0) (get_or (turned ring m) (length (turned ring m) - 1) 0)
  around (inl none) =
      let last : length (turned ring m) - 1 + m ≡ length ring - 1 = omega (arith, whole) in
      joined (get_or ring 0 0) (get_or ring (length ring - 1) 0) _ _
      (first_is ∙ ap (λ (x : ℕ). get_or ring x 0) none)
      (turned-low ring m (length (turned ring m) - 1) (omega (arith, whole, within))
      ∙ ap (λ (x : ℕ). get_or ring x 0) last) closed.around
  around (inr some) =
      let next : m - 1 + 1 ≡ m = omega (arith, some) in
      let last : length (turned ring m) - 1 + m - length ring ≡ m - 1 = omega (arith, whole, within, some) in
      joined (get_or ring (m - 1 + 1) 0) (get_or ring (m - 1) 0) _ _
      (first_is ∙ ap (λ (x : ℕ). get_or ring x 0) (sym next))
      (turned-high ring m (length (turned ring m) - 1) within (omega (arith, whole, within))
      (omega (arith, whole, within, some)) ∙ ap (λ (x : ℕ). get_or ring x 0) last)
      (closed.along (m - 1) (omega (arith, within, some)))

  from : (j : ℕ) → Contains (turned ring m) j → Contains ring j
  from j has = turned_from ring m j has

  to : (j : ℕ) → Contains ring j → Contains (turned ring m) j
  to j has = turned_to ring m j has

  least : (j : ℕ) → Contains (turned ring m) j → get_or (turned ring m) 0 0 ≤ j
  least j has =
      let place = place_in ring j (from j has) in
      let low : get_or ring m 0 ≤ get_or ring place.0 0 = lowest place.0 place.1 in
      let is : get_or ring place.0 0 ≡ j = place.2 in
      omega (arith, low, is, first_is)

  once : (a b : ℕ) → a < b → b < length ring → (a + m < length ring) ⊎ (length ring ≤ a + m) → (b + m < length ring) ⊎ (length ring ≤ b + m) → get_or (turned ring m) a 0 ≢ get_or (turned ring m) b 0
  once a b lower inside (inl low_a) (inl low_b) same = closed.once (a + m) (b + m) (omega arith) low_b (sym (turned-low ring m a low_a) ∙ same ∙ turned-low ring m b low_b)
  once a b lower inside (inl low_a) (inr high_b) same =
      closed.once (b + m - length ring) (a + m) (omega arith) low_a
      (sym (turned-high ring m b within inside high_b) ∙ sym same ∙ turned-low ring m a low_a)
  once a b lower inside (inr high_a) (inl low_b) same = absurd (omega arith)
  once a b lower inside (inr high_a) (inr high_b) same =
      closed.once (a + m - length ring) (b + m - length ring) (omega arith) (omega arith)
      (sym (turned-high ring m a within (omega arith) high_a) ∙ same
      ∙ turned-high ring m b within inside high_b)

-- the result of the reversal and the rotation of the ring
pub IsNamedCycle-from_back_ring : (net : Net) (ring : List ℕ) (m : ℕ) → IsBackRing net ring →
    m < length (reverse ring) → ((k : ℕ) → k < length (reverse ring) →
    get_or (reverse ring) m 0 ≤ get_or (reverse ring) k 0) →
    IsNamedCycle net (drop m (reverse ring) ++ take m (reverse ring))
unfolding turned
IsNamedCycle-from_back_ring net ring m back within lowest = IsNamedCycle-turned net (reverse ring) m (IsRing-reverse net ring back) within lowest
