-- A feasible schedule that continues a word: the next step of a letter of least rank can move to its
-- head, and no step starts later.
use Rattle.std.proofs.Common.{◌≡◌, ◌≢◌, ℕ, suc, ◌+◌, ◌-◌, ◌*◌, ◌≤◌, ◌<◌, nat_lt, ◌⊎◌, inl, inr, List, length, refl, ◌∙◌, ap, arith}
use Rattle.std.specs.List.{Contains}
use Rattle.std.proofs.lemmas.Bool.{cases_lt, cond-true, cond-false, lt-ltb, le-ltb}
use Rattle.std.proofs.lemmas.List.{get_or-set_same, get_or-set_other}
use Rattle.plan_shop.specs.Shop.{JobShop, IsShop, count_steps, time_of, machine_of, job_of, place_of, times_from}
use Rattle.plan_shop.specs.Words.{Placed, steps_done, next_step, ready, next_end, letter_of, letters_after}
use Rattle.plan_shop.specs.Continuation.{Continues}
use Rattle.plan_shop.specs.Laws.{IsFirstEnd, Competes, LettersAreThese}
use Rattle.plan_shop.proofs.ShopBasics.{at, number_is, place_at, place_below, job_below, number_below, IsSound, apart_both}
use Rattle.plan_shop.proofs.Reached.{Reached, ready_le, chain_to}
use Rattle.plan_shop.proofs.CompetitorLemmas.{letters_are_these}
use Rattle.plan_shop.proofs.Earlier.{IsLeft, moved}
use Rattle.plan_active.specs.Ranks.{lesser, rank_of}

-- the lesser of a start and an end is neither above the end nor above the start
pub lesser_end : (start end : ℕ) → lesser start end ≤ 2 * end
lesser_end start end = elim (cases_lt start end) [
  | inl before ↦ omega (arith, before, cond-true (nat_lt start end) (2 * start + 1) (2 * end) (lt-ltb start end before))
  | inr after ↦ omega (arith, cond-false (nat_lt start end) (2 * start + 1) (2 * end) (le-ltb start end after))
]

pub lesser_start : (start end : ℕ) → lesser start end ≤ 2 * start + 1
lesser_start start end = elim (cases_lt start end) [
  | inl before ↦ omega (arith, cond-true (nat_lt start end) (2 * start + 1) (2 * end) (lt-ltb start end before))
  | inr after ↦ omega (arith, after, cond-false (nat_lt start end) (2 * start + 1) (2 * end) (le-ltb start end after))
]

-- it is one of them
pub lesser_cases : (start end : ℕ) → ((start < end) × (lesser start end ≡ 2 * start + 1)) ⊎ ((end ≤ start) × (lesser start end ≡ 2 * end))
lesser_cases start end = elim (cases_lt start end) [
  | inl before ↦ inl (before, cond-true (nat_lt start end) (2 * start + 1) (2 * end) (lt-ltb start end before))
  | inr after ↦ inr (after, cond-false (nat_lt start end) (2 * start + 1) (2 * end) (le-ltb start end after))
]

-- no letter has a lesser rank than that of a job
abbrev pub IsLeastRank : JobShop → List Placed → List ℕ → ℕ → Type 0
IsLeastRank s xs starts j = (k : ℕ) → Contains (letters_after s xs) (letter_of k) → rank_of s xs starts j ≤ rank_of s xs starts k

-- an unplaced step of positive time on the machine of a step
pub record IsBeside (s : JobShop) (xs : List Placed) (y x : ℕ) : Type 0 where
  pub below : x < count_steps s
  pub unplaced : steps_done xs (job_of s x) ≤ place_of s x
  pub machine : machine_of s x ≡ machine_of s y
  pub positive : 0 < time_of s x

-- an unplaced step starts after the first end, or it is the next step of a letter
abbrev IsAfterOrNext : JobShop → List ℕ → List Placed → ℕ → ℕ → Type 0
IsAfterOrNext s starts xs b x =
    (next_end s xs b ≤ at starts x)
    ⊎ ((k : ℕ) × Contains (letters_after s xs) (letter_of k) × (next_step s xs k ≡ x))

-- an unplaced step that isn't a next one starts after the first end
later_after : (s : JobShop) → IsShop s → (starts : ℕ → ℕ) (xs : List Placed) (b : ℕ) → Reached s xs →
    IsSound s starts → Continues s starts xs → IsFirstEnd s xs b → (x : ℕ) → x < count_steps s →
    steps_done xs (job_of s x) < place_of s x → next_end s xs b ≤ starts x
later_after s shop starts xs b r sound con first x l later =
    let j = job_of s x in
    let k = steps_done xs j in
    let y = next_step s xs j in
    let job : j < s.jobs = job_below s shop x l in
    let last : place_of s x < s.machines = place_below s shop x in
    let next : k < s.machines = omega (arith, later, last) in
    let n = place_of s x - suc k in
    let there : y + suc n ≡ x = omega (arith, number_is s x, later) in
    let reach : starts y + times_from s y (suc n) ≤ starts (y + suc n) = chain_to s shop starts sound (suc n) y (number_below s shop j k job next) (omega (arith, place_at s j k next, later, last)) in
    omega (arith, reach, ap starts there, ready_le s shop starts xs r sound con j job next, first.least j job next)

after_or_next : (s : JobShop) → IsShop s → (starts : List ℕ) (xs : List Placed) (j : ℕ) → Reached s xs →
    IsSound s (at starts) → Continues s (at starts) xs → (c : Competes s xs j) → (x : ℕ) →
    IsBeside s xs (next_step s xs j) x → IsAfterOrNext s starts xs c.winner x
unfolding LettersAreThese
after_or_next s shop starts xs j r sound con c x p = elim (cases_lt (steps_done xs (job_of s x)) (place_of s x)) [
  | inl later ↦ inl (later_after s shop (at starts) xs c.winner r sound con c.first_end x p.below later)
  | inr next ↦
      let k = job_of s x in
      let done : steps_done xs k ≡ place_of s x = omega (arith, next, p.unplaced) in
      let is : next_step s xs k ≡ x = omega (arith, number_is s x, done) in
      let job : k < s.jobs = job_below s shop x p.below in
      let low : steps_done xs k < s.machines = omega (arith, done, place_below s shop x) in
      elim (cases_lt (ready s xs k) (next_end s xs c.winner)) [
        | inr behind ↦ inl (omega (arith, behind, ready_le s shop (at starts) xs r sound con k job low, ap (at starts) is))
        | inl sooner ↦ inr (
          k,
          (letters_are_these s xs k).1 (inr (record {
            job = job;
            next = low;
            positive = c.positive;
            winner = c.winner;
            first_end = c.first_end;
            machine = ap (machine_of s) is ∙ p.machine ∙ c.machine;
            sooner = sooner;
          })),
          is,
        )
      ]
]

-- the step that would end first is the next step of a letter
winner_there : (s : JobShop) (xs : List Placed) (j : ℕ) → (c : Competes s xs j) → Contains (letters_after s xs) (letter_of c.winner)
unfolding LettersAreThese
winner_there s xs j c = (letters_are_these s xs c.winner).1 (inr (record {
  job = c.first_end.job;
  next = c.first_end.next;
  positive = c.positive;
  winner = c.winner;
  first_end = c.first_end;
  machine = refl;
  sooner = omega (arith, c.positive c.winner c.first_end.job c.first_end.next);
}))

-- a competing step of least rank ends before each other unplaced step of its machine starts
least_room : (s : JobShop) → IsShop s → (starts : List ℕ) (xs : List Placed) (j : ℕ) → Reached s xs →
    IsSound s (at starts) → Continues s (at starts) xs → Competes s xs j → IsLeastRank s xs starts j → (x : ℕ) →
    IsBeside s xs (next_step s xs j) x → x ≢ next_step s xs j → next_end s xs j ≤ at starts x
least_room s shop starts xs j r sound con c least x p apart = elim (lesser_cases (at starts y) (next_end s xs j)) [
  | inr (late, is) ↦ elim (after_or_next s shop starts xs j r sound con c x p) [
    | inl far ↦ omega (arith, is, far, by_winner)
    | inr (k, there, next) ↦ omega (arith, is, least k there, lesser_start (at starts (next_step s xs k)) (next_end s xs k), ap (at starts) next)
  ]
  | inl (early, is) ↦
      let before : at starts y ≤ at starts x = elim (after_or_next s shop starts xs j r sound con c x p) [
        | inl far ↦ omega (arith, is, far, by_winner)
        | inr (k, there, next) ↦ omega (arith, is, least k there, lesser_start (at starts (next_step s xs k)) (next_end s xs k), ap (at starts) next)
      ] in
      elim (apart_both s (at starts) sound x y apart p.below below p.machine p.positive (c.positive j c.job c.next)) [
        | inl first ↦ absurd (omega (arith, first, before, p.positive))
        | inr after ↦ omega (arith, after, ready_le s shop (at starts) xs r sound con j c.job c.next)
      ]
] where
  y : ℕ
  y = next_step s xs j

  below : y < count_steps s
  below = number_below s shop j (steps_done xs j) c.job c.next

  by_winner : rank_of s xs starts j ≤ 2 * next_end s xs c.winner
  by_winner = omega (arith, least c.winner (winner_there s xs j c), lesser_end (at starts (next_step s xs c.winner)) (next_end s xs c.winner))

moved_start : (s : JobShop) → IsShop s → (starts : List ℕ) (xs : List Placed) (j : ℕ) →
    length starts ≡ count_steps s → j < s.jobs → steps_done xs j < s.machines →
    at (moved s starts xs j) (next_step s xs j) ≡ ready s xs j
moved_start s shop starts xs j whole l next = get_or-set_same starts (next_step s xs j) (ready s xs j) 0 (omega (arith, whole, number_below s shop j (steps_done xs j) l next))

pub moved_rest : (s : JobShop) (starts : List ℕ) (xs : List Placed) (j : ℕ) (x : ℕ) → x ≢ next_step s xs j → at (moved s starts xs j) x ≡ at starts x
moved_rest s starts xs j x apart = get_or-set_other starts (next_step s xs j) x (ready s xs j) 0 apart

-- the next step of a letter of least rank can move to its head
pub least_left : (s : JobShop) → IsShop s → (starts : List ℕ) (xs : List Placed) (j : ℕ) →
    length starts ≡ count_steps s → Reached s xs → IsSound s (at starts) → Continues s (at starts) xs →
    Contains (letters_after s xs) (letter_of j) → IsLeastRank s xs starts j → IsLeft s (at starts) (at (moved s starts xs j)) xs j
unfolding LettersAreThese
least_left s shop starts xs j whole r sound con there least = elim ((letters_are_these s xs j).0 there) [
  | inl z ↦ record {
    job = z.job;
    next = z.next;
    start = moved_start s shop starts xs j whole z.job z.next;
    rest = moved_rest s starts xs j;
    room = λ x l u apart same tx ty. absurd (omega (arith, ty, z.none));
  }
  | inr c ↦ record {
    job = c.job;
    next = c.next;
    start = moved_start s shop starts xs j whole c.job c.next;
    rest = moved_rest s starts xs j;
    room = λ x l u apart same tx ty.
        least_room s shop starts xs j r sound con c least x (record { below = l; unplaced = u; machine = same; positive = tx }) apart;
  }
]
