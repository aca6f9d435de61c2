-- If an order contains all activities, there is no cycle; otherwise the open activities are the
-- largest set in which each has a predecessor.
use Rattle.std.proofs.Common.{ℕ, suc, zero, Bool, true, false, not, ◌≡◌, ◌+◌, ◌-◌, ◌≤◌, ◌<◌, ◌⊎◌, inl, inr, List, [], ◌∷◌, length, take, get_or, sym, ◌∙◌, ap, subst, arith}
use Rattle.std.proofs.lemmas.List.{length-take, get_or-take, get_or_past, get_or_default}
use Rattle.std.proofs.lemmas.Bool.{cases_Bool, cases_lt, false≢true}
use Rattle.plan_net.specs.Network.{Net, count_of, IsActivity, IsArc, IsLeast}
use Rattle.plan_net.specs.Path.{IsWalk, IsAcyclic, last_of}
use Rattle.plan_net.specs.Order.{CanCome, IsLeastOrder}
use Rattle.plan_net.specs.Cycle.{IsFed, IsCaught}
use Rattle.plan_net.specs.Limits.{IsWithinLimits}
use Rattle.plan_net.specs.Placed.{IsPlaced, IsOpen, IsPlacedOrder, IsStuck}
use Rattle.plan_net.specs.Trails.{IsCaughtOpen}
use Rattle.plan_net.proofs.RowLemmas.{arc_ends}
use Rattle.plan_net.proofs.RisingLemmas.{place_in, stands_in}
use Rattle.plan_net.proofs.TurnLemmas.{all_set}

-- each entry of an order was the least that could come
abbrev Comes_least : Net → List ℕ → Type 0
Comes_least net order = (k : ℕ) → k < length order → IsLeast (CanCome net (take k order)) (get_or order k 0)

-- a predecessor is earlier in the order
pub earlier : (net : Net) (order : List ℕ) → Comes_least net order → (i j p : ℕ) → IsArc net i j → p < length order → get_or order p 0 ≡ j → (q : ℕ) × (q < p) × (get_or order q 0 ≡ i)
earlier net order least i j p arc within is =
    let arc' : IsArc net i (get_or order p 0) = subst (IsArc net i) (sym is) arc in
    let place = place_in (take p order) i ((least p within).0.2 i arc') in
    let before : place.0 < p = omega (arith, place.1, length-take p order) in
    (place.0, before, sym (get_or-take p order place.0 0 before) ∙ place.2)

-- no activity occurs twice
pub once_in : (net : Net) (order : List ℕ) → Comes_least net order → (p q : ℕ) → q < p → p < length order → get_or order q 0 ≡ get_or order p 0 → ⊥
once_in net order least p q before within same =
    let inside : q < length (take p order) = omega (arith, length-take p order) in
    (least p within).0.1 (stands_in (take p order) (get_or order p 0) q inside (get_or-take p order q 0 before ∙ same))

-- along a walk the indices in the order rise
walk_later : (net : Net) (order : List ℕ) → Comes_least net order → (i : ℕ) (others : List ℕ) (p : ℕ) →
    IsWalk net i others → p < length order → get_or order p 0 ≡ last_of i others →
    (q : ℕ) × (q + length others ≤ p) × (get_or order q 0 ≡ i)
walk_later net order least i [] p walk within is = (p, omega arith, is)
walk_later net order least i (j ∷ others) p (arc, walk) within is =
    let there = walk_later net order least j others p walk within is in
    let here = earlier net order least i j there.0 arc (omega (arith, there.1)) there.2 in
    (here.0, omega (arith, here.1, there.1), here.2)

-- a network whose order contains all activities has no cycle
pub IsAcyclic-from_order : (net : Net) (order : List ℕ) → IsLeastOrder net order → IsAcyclic net
IsAcyclic-from_order net order whole i others (path, some, ends) =
    let place = place_in order i (whole.each i path.0) in
    let back = walk_later net order whole.least i others place.0 path.1 place.1 (place.2 ∙ sym ends) in
    let lower : back.0 < place.0 = omega (arith, back.1, some) in
    once_in net order whole.least place.0 back.0 lower place.1 (back.2 ∙ sym place.2)

-- if no mark is left to set, the order contains all activities
pub IsLeastOrder-from_turns : (net : Net) (order : List ℕ) (placed : List Bool) → IsPlacedOrder net order placed → ((j : ℕ) → IsActivity net j → IsPlaced placed j) → IsLeastOrder net order
IsLeastOrder-from_turns net order placed turns each = record {
  whole = omega (arith, turns.counted, all_set placed marked);
  each = λ j activity. (turns.marks j activity).0 (each j activity);
  least = turns.least;
} where
  marked : (i : ℕ) → i < length placed → get_or placed i false ≡ true
  marked i within =
      let whole : length placed ≡ count_of net = turns.whole in
      let same : i + 1 - 1 ≡ i = omega arith in
      subst (λ (k : ℕ). get_or placed k false ≡ true) same (each (i + 1) (omega arith, omega (arith, whole)))

-- no order contains a member of a set in which each member has a predecessor
never_at : (net : Net) (order : List ℕ) → Comes_least net order → (set : ℕ → Bool) → IsFed net set → (bound p j : ℕ) → p < bound → set j ≡ true → p < length order → get_or order p 0 ≡ j → ⊥
never_at net order least set fed zero p j lower member within is = absurd (omega arith)
never_at net order least set fed (suc bound) p j lower member within is =
    let pred = fed j member in
    let before = earlier net order least pred.0 j p pred.2 within is in
    never_at net order least set fed bound before.0 pred.0 (omega (arith, before.1)) pred.1 (omega (arith, before.1)) before.2

-- the test for open activities
open_test : List Bool → ℕ → Bool
open_test placed zero = false
open_test placed (suc k) = not (get_or placed k true)

open_passes : (net : Net) (placed : List Bool) → length placed ≡ count_of net → (j : ℕ) → IsActivity net j → IsOpen placed j → open_test placed j ≡ true
unfolding open_test
open_passes net placed whole zero activity is_open = absurd (omega (arith, activity))
open_passes net placed whole (suc k) activity is_open =
    let same : suc k - 1 ≡ k = omega arith in
    let within : k < length placed = omega (arith, activity, whole) in
    let here : get_or placed k false ≡ false = subst (λ (x : ℕ). get_or placed x false ≡ false) same is_open in
    ap not (get_or_default placed k true false within ∙ here)

passes_open : (net : Net) (placed : List Bool) → length placed ≡ count_of net → (j : ℕ) → open_test placed j ≡ true → IsActivity net j × IsOpen placed j
unfolding open_test
passes_open net placed whole zero passes = absurd (false≢true passes)
passes_open net placed whole (suc k) passes = by_case (cases_lt k (length placed)) (cases_Bool (get_or placed k true)) where
  by_case : (k < length placed) ⊎ (length placed ≤ k) → (get_or placed k true ≡ true) ⊎ (get_or placed k true ≡ false) → IsActivity net (suc k) × IsOpen placed (suc k)
  by_case w (inl marked) = absurd (false≢true (sym (ap not marked) ∙ passes))
  by_case (inr past) (inr unmarked) = absurd (false≢true (sym unmarked ∙ get_or_past placed k true past))
  by_case (inl within) (inr unmarked) =
      let same : k ≡ suc k - 1 = omega arith in
      ((omega arith, omega (arith, whole)), subst (λ (x : ℕ). get_or placed x false ≡ false) same (get_or_default placed k false true within ∙ unmarked))

-- if no activity can come, the open activities are those of the largest set
pub IsCaughtOpen-from_turns : (net : Net) (order : List ℕ) (placed : List Bool) → IsWithinLimits net → IsPlacedOrder net order placed → IsStuck net placed → IsCaughtOpen net placed
IsCaughtOpen-from_turns net order placed limits turns stuck j = (left_open, caught) where
  left_open : IsCaught net j → IsActivity net j × IsOpen placed j
  left_open (set, fed, member) = (activity, by_mark (cases_Bool (get_or placed (j - 1) false))) where
    activity : IsActivity net j
    activity = let pred = fed j member in (arc_ends net pred.0 j limits pred.2).1

    by_mark : (get_or placed (j - 1) false ≡ true) ⊎ (get_or placed (j - 1) false ≡ false) → IsOpen placed j
    by_mark (inr unmarked) = unmarked
    by_mark (inl marked) =
        let place = place_in order j ((turns.marks j activity).0 marked) in
        absurd (never_at net order turns.least set fed (suc place.0) place.0 j (omega arith) member place.1 place.2)

  caught : IsActivity net j × IsOpen placed j → IsCaught net j
  caught (activity, is_open) = (open_test placed, fed, open_passes net placed turns.whole j activity is_open) where
    fed : IsFed net (open_test placed)
    fed h passes =
        let here = passes_open net placed turns.whole h passes in
        let pred = stuck h here.0 here.1 in
        (pred.0, open_passes net placed turns.whole pred.0 (arc_ends net pred.0 h limits pred.1).0 pred.2, pred.1)
