-- A push and a pop as one step: the data of the tree before and after.
use Rattle.std.proofs.Common.{◌≡◌, ℕ, suc, ◌-◌, ◌*◌, ◌≤◌, ◌<◌, cond, true, List, [], ◌∷◌, ◌++◌, length, get_or, set, refl, sym, ap, ◌∙◌, subst, arith}
use Rattle.std.specs.Prelude.{Contains, nat_lt}
use Rattle.std.proofs.Math.Nat.{mul-le-mul}
use Rattle.std.proofs.lemmas.Bool.{lt-ltb}
use Rattle.std.proofs.lemmas.List.{length-append}
use Rattle.plan_shop.specs.declared.tree.Turn.{Turn}
use Rattle.plan_shop.specs.Shop.{JobShop, count_steps, time_of, machine_of}
use Rattle.plan_shop.specs.Words.{Placed, steps_done, has_next, job_end, machine_free, next_step, next_end, ready, place, job_of_letter, letters_after}
use Rattle.plan_shop.specs.Trees.{Standing, standing, placed, word_of, IsTurn, AreTurns, Keeps, IsKept}
use Rattle.plan_shop.specs.Laws.{placed_in}
use Rattle.plan_shop.proofs.ShopBasics.{number_below}
use Rattle.plan_shop.proofs.NextLemmas.{letter_is}
use Rattle.plan_shop.proofs.PlacingLemmas.{done-same}
use Rattle.plan_shop.proofs.HeldLemmas.{read}
use Rattle.plan_shop.proofs.KeepLemmas.{placed_by-more, turns-more, turns-before, word_of-more, place-keeps, place-undone, free-after}

-- a letter's job, by its place
pub record IsPushable (s : JobShop) (xs : List Placed) (a : ℕ) : Type 0 where
  pub first : 1 ≤ a
  pub same : job_of_letter a ≡ a - 1
  pub job : a - 1 < s.jobs
  pub next : steps_done xs (a - 1) < s.machines
  pub has : has_next s xs (a - 1) ≡ true

pub pushable : (s : JobShop) (xs : List Placed) (a : ℕ) → Contains (letters_after s xs) a → IsPushable s xs a
pushable s xs a follows =
    let letter = letter_is s xs a follows in
    let same : job_of_letter a ≡ a - 1 = omega (arith, letter.is) in
    let next : steps_done xs (a - 1) < s.machines = omega (arith, letter.next, ap (λ j. steps_done xs j) same) in
    record { first = omega (arith, letter.is); same = same; job = omega (arith, letter.job, same); next = next; has = lt-ltb (steps_done xs (a - 1)) s.machines next }

-- the data that a push stores
pub record IsPush (t : Standing) (turn : Turn) (d e m f x b : ℕ) : Type 0 where
  pub follows : Contains (letters_after t.shop (placed t)) turn.letter
  pub turn_end : turn.end ≡ job_end t.shop (placed t) (turn.letter - 1)
  pub turn_free : turn.free ≡ machine_free t.shop (placed t) m
  pub done : d ≡ suc (steps_done (placed t) (turn.letter - 1))
  pub end : e ≡ next_end t.shop (placed t) (turn.letter - 1)
  pub machine : m ≡ machine_of t.shop (next_step t.shop (placed t) (turn.letter - 1))
  pub free : f ≡ cond (nat_lt 0 (time_of t.shop (next_step t.shop (placed t) (turn.letter - 1)))) e turn.free
  pub step : x ≡ next_step t.shop (placed t) (turn.letter - 1)
  pub start : b ≡ ready t.shop (placed t) (turn.letter - 1)
  pub on : m < t.shop.machines
  pub inside : x < count_steps t.shop

pushed-here : (s : JobShop) (tails done ends free starts : List ℕ) (turns : List Turn) (turn : Turn) (d e m f x b : ℕ) → IsKept s tails done ends free starts turns
    → IsPush (standing s (word_of turns)) turn d e m f x b
    → IsKept s tails (set done (turn.letter - 1) d) (set ends (turn.letter - 1) e) (set free m f) (set starts x b) (turns ++ turn ∷ [])
pushed-here s tails done ends free starts turns turn d e m f x b k p =
    let xs : List Placed = placed_in s (word_of turns) in
    let j : ℕ = turn.letter - 1 in
    let letter = pushable s xs turn.letter p.follows in
    let free_is : f ≡ machine_free s (place s xs j) m =
    p.free ∙ ap (λ n. cond (nat_lt 0 (time_of s (next_step s xs j))) n turn.free) p.end
    ∙ ap (λ n. cond (nat_lt 0 (time_of s (next_step s xs j))) (next_end s xs j) n) (p.turn_free ∙ ap (λ n. machine_free s xs n) p.machine)
    ∙ free-after s xs j ∙ ap (λ n. machine_free s (place s xs j) n) (sym p.machine) in
    let after : placed_in s (word_of (turns ++ turn ∷ [])) ≡ place s xs j =
    ap (λ w. placed_in s w) (word_of-more turns turn) ∙ placed_by-more s [] (word_of turns) turn.letter ∙ ap (λ i. place s xs i) letter.same in
    let is_turn : IsTurn s xs turn = record {
      follows = p.follows;
      end = p.turn_end ∙ ap (λ i. job_end s xs i) (sym letter.same);
      free = p.turn_free ∙ ap (λ n. machine_free s xs n) (p.machine ∙ ap (λ i. machine_of s (next_step s xs i)) (sym letter.same));
    } in
    let Q : List Placed → Type 0 = λ ys. Keeps s ys (set done j d) (set ends j e) (set free m f) (set starts x b) in
    record {
      small = k.small;
      tails_are = k.tails_are;
      turns_are = turns-more s [] turns turn k.turns_are is_turn;
      kept = subst Q (sym after) (place-keeps s xs done ends free starts k.kept j d e m f x b letter.job p.on p.inside p.done p.end p.machine free_is p.step p.start);
    }

pub pushed : (s : JobShop) (tails done ends free starts : List ℕ) (turns whole : List Turn) (turn : Turn)
    (d e m f x b : ℕ) (t : Standing) → standing s (word_of turns) ≡ t →
    IsKept s tails done ends free starts turns
    → IsPush t turn d e m f x b → whole ≡ turns ++ turn ∷ []
    → IsKept s tails (set done (turn.letter - 1) d) (set ends (turn.letter - 1) e) (set free m f) (set starts x b) whole
pushed s tails done ends free starts turns whole turn d e m f x b t is k p all =
    let P : Standing → Type 0 = λ v. IsPush v turn d e m f x b in
    let R : List Turn → Type 0 = λ v. IsKept s tails (set done (turn.letter - 1) d) (set ends (turn.letter - 1) e) (set free m f) (set starts x b) v in
    subst R (sym all) (pushed-here s tails done ends free starts turns turn d e m f x b k (subst P (sym is) p))

-- the data before a pop
pub record IsPop (s : JobShop) (done ends free starts : List ℕ) (turns : List Turn) (turn : Turn) : Type 0 where
  pub first : 1 ≤ turn.letter
  pub job : turn.letter - 1 < s.jobs
  pub next : steps_done (placed_in s (word_of turns)) (turn.letter - 1) < s.machines
  pub turn_end : turn.end ≡ job_end s (placed_in s (word_of turns)) (turn.letter - 1)
  pub turn_free : turn.free ≡ machine_free s (placed_in s (word_of turns)) (machine_of s (next_step s (placed_in s (word_of turns)) (turn.letter - 1)))
  pub turns_are : AreTurns s [] turns
  pub kept : Keeps s (place s (placed_in s (word_of turns)) (turn.letter - 1)) done ends free starts
  pub inside : next_step s (placed_in s (word_of turns)) (turn.letter - 1) < count_steps s
  pub few : count_steps s ≤ 1000
  pub few_machines : s.machines ≤ 20

popped-here : (s : JobShop) (tails done ends free starts : List ℕ) (turns : List Turn) (turn : Turn) →
    IsKept s tails done ends free starts (turns ++ turn ∷ []) → IsPop s done ends free starts turns turn
popped-here s tails done ends free starts turns turn k =
    let xs : List Placed = placed_in s (word_of turns) in
    let parts = turns-before s [] turns turn k.turns_are in
    let letter = pushable s xs turn.letter parts.1.follows in
    let after : placed_in s (word_of (turns ++ turn ∷ [])) ≡ place s xs (turn.letter - 1) =
    ap (λ w. placed_in s w) (word_of-more turns turn) ∙ placed_by-more s [] (word_of turns) turn.letter ∙ ap (λ i. place s xs i) letter.same in
    let Q : List Placed → Type 0 = λ ys. Keeps s ys done ends free starts in
    let most : s.jobs * s.machines ≤ 50 * 20 = mul-le-mul k.small.few_jobs k.small.few_machines in
    record {
      first = letter.first;
      job = letter.job;
      next = letter.next;
      turn_end = parts.1.end ∙ ap (λ i. job_end s xs i) letter.same;
      turn_free = parts.1.free ∙ ap (λ i. machine_free s xs (machine_of s (next_step s xs i))) letter.same;
      turns_are = parts.0;
      kept = subst Q after k.kept;
      inside = number_below s k.small.shop (turn.letter - 1) (steps_done xs (turn.letter - 1)) letter.job letter.next;
      few = omega (arith, most, k.small.shop.all_steps);
      few_machines = k.small.few_machines;
    }

pub popped : (s : JobShop) (tails done ends free starts : List ℕ) (turns whole : List Turn) (turn : Turn) →
    whole ≡ turns ++ turn ∷ [] → IsKept s tails done ends free starts whole →
    IsPop s done ends free starts turns turn
popped s tails done ends free starts turns whole turn all k =
    let R : List Turn → Type 0 = λ v. IsKept s tails done ends free starts v in
    popped-here s tails done ends free starts turns turn (subst R all k)

pub same_front : (xs ys : List ℕ) (a b : ℕ) → xs ++ a ∷ [] ≡ ys ++ b ∷ [] → xs ≡ ys
same_front [] [] a b is = refl
same_front [] (y ∷ ys) a b is = absurd (omega (arith, ap (λ (v : List ℕ). length v) is, length-append ys (b ∷ [])))
same_front (x ∷ xs) [] a b is = absurd (omega (arith, ap (λ (v : List ℕ). length v) is, length-append xs (a ∷ [])))
same_front (x ∷ xs) (y ∷ ys) a b is =
    let heads : x ≡ y = cc in
    let rests : xs ++ a ∷ [] ≡ ys ++ b ∷ [] = cc in
    let same = same_front xs ys a b rests in
    cc

-- the word without its last letter
pub popped-word : (s : JobShop) (turns whole : List Turn) (turn : Turn) (t : Standing) →
    standing s (word_of whole) ≡ t → whole ≡ turns ++ turn ∷ [] → (u : List ℕ) (a : ℕ) →
    t.word ≡ u ++ a ∷ [] → word_of turns ≡ u
popped-word s turns whole turn t is all u a word =
    same_front (word_of turns) u turn.letter a (sym (word_of-more turns turn) ∙ ap (λ v. word_of v) (sym all) ∙ ap (λ (v : Standing). v.word) is ∙ word)

-- the steps done, as a pop reads them
pub pop-read : (s : JobShop) (done ends free starts : List ℕ) (turns : List Turn) (turn : Turn) →
    IsPop s done ends free starts turns turn → (r : ℕ) → r ≡ get_or done (turn.letter - 1) r →
    r ≡ suc (steps_done (placed_in s (word_of turns)) (turn.letter - 1))
pop-read s done ends free starts turns turn p r is =
    read done (turn.letter - 1) r (omega (arith, p.kept.done_size, p.job)) is
    ∙ p.kept.done_is (turn.letter - 1) p.job ∙ done-same s (placed_in s (word_of turns)) (turn.letter - 1)

-- the data after a pop
pub undone : (s : JobShop) (tails done ends free starts : List ℕ) (turns : List Turn) (turn : Turn)
    (whole : List Turn) → IsKept s tails done ends free starts whole →
    IsPop s done ends free starts turns turn
    → (d m : ℕ) → d ≡ steps_done (placed_in s (word_of turns)) (turn.letter - 1) → m ≡ machine_of s (next_step s (placed_in s (word_of turns)) (turn.letter - 1)) → m < s.machines
    → IsKept s tails (set done (turn.letter - 1) d) (set ends (turn.letter - 1) turn.end) (set free m turn.free) starts turns
undone s tails done ends free starts turns turn whole k p d m d_is m_is on = record {
  small = k.small;
  tails_are = k.tails_are;
  turns_are = p.turns_are;
  kept = place-undone s (placed_in s (word_of turns)) done ends free starts (turn.letter - 1) d turn.end m turn.free p.kept p.job on p.next d_is p.turn_end m_is
      (p.turn_free ∙ ap (λ n. machine_free s (placed_in s (word_of turns)) n) (sym m_is));
}
