-- The data of a tree after each push and each pop.
use Rattle.std.proofs.Common.{◌≡◌, ◌≢◌, ℕ, suc, ◌<◌, inl, inr, cond, List, [], ◌∷◌, ◌++◌, get_or, set, refl, sym, ap, ◌∙◌, arith}
use Rattle.std.specs.Prelude.{nat_eq, nat_lt}
use Rattle.std.proofs.lemmas.Bool.{cases_eq, cases_lt, cond-true, cond-false, eq-eqb, ne_eqb, lt-ltb, le-ltb}
use Rattle.std.proofs.lemmas.List.{get_or-set_same, get_or-set_other, length-set}
use Rattle.plan_shop.specs.declared.tree.Turn.{Turn}
use Rattle.plan_shop.specs.Shop.{JobShop, count_steps, time_of, machine_of, job_of, place_of}
use Rattle.plan_shop.specs.Words.{Placed, steps_done, job_end, machine_free, next_step, next_end, ready, place, placed_by, job_of_letter, Follows, start_in}
use Rattle.plan_shop.specs.Trees.{IsTurn, AreTurns, Keeps, word_of}
use Rattle.plan_shop.proofs.ShopBasics.{job_at, place_at}
use Rattle.plan_shop.proofs.Reached.{placed_cases}
use Rattle.plan_shop.proofs.PlacingLemmas.{done-same, done-other, end-same, end-other, free-same, free-other, free-at_once}

-- ---- turns

-- one more letter
pub placed_by-more : (s : JobShop) (xs : List Placed) (w : List ℕ) (a : ℕ) → placed_by s xs (w ++ a ∷ []) ≡ place s (placed_by s xs w) (job_of_letter a)
placed_by-more s xs [] a = refl
placed_by-more s xs (b ∷ w) a = placed_by-more s (place s xs (job_of_letter b)) w a

pub turns-more : (s : JobShop) (xs : List Placed) (turns : List Turn) (turn : Turn) → AreTurns s xs turns → IsTurn s (placed_by s xs (word_of turns)) turn → AreTurns s xs (turns ++ turn ∷ [])
turns-more s xs [] turn are is = (is, tt)
turns-more s xs (t ∷ turns) turn are is = (are.0, turns-more s (place s xs (job_of_letter t.letter)) turns turn are.1 is)

pub turns-before : (s : JobShop) (xs : List Placed) (turns : List Turn) (turn : Turn) → AreTurns s xs (turns ++ turn ∷ []) → AreTurns s xs turns × IsTurn s (placed_by s xs (word_of turns)) turn
turns-before s xs [] turn are = (tt, are.0)
turns-before s xs (t ∷ turns) turn are =
    let rest = turns-before s (place s xs (job_of_letter t.letter)) turns turn are.1 in
    ((are.0, rest.0), rest.1)

pub word_of-more : (turns : List Turn) (turn : Turn) → word_of (turns ++ turn ∷ []) ≡ word_of turns ++ turn.letter ∷ []
word_of-more [] turn = refl
word_of-more (t ∷ turns) turn = ap (λ (w : List ℕ). t.letter ∷ w) (word_of-more turns turn)

pub turns-follow : (s : JobShop) (xs : List Placed) (turns : List Turn) → AreTurns s xs turns → Follows s xs (word_of turns)
turns-follow s xs [] are = tt
turns-follow s xs (t ∷ turns) are = (are.0.follows, turns-follow s (place s xs (job_of_letter t.letter)) turns are.1)

-- ---- starts

start-same : (s : JobShop) (xs : List Placed) (j : ℕ) → start_in (place s xs j) (next_step s xs j) ≡ ready s xs j
start-same s xs j = cond-true (nat_eq (next_step s xs j) (next_step s xs j)) (ready s xs j) (start_in xs (next_step s xs j)) (eq-eqb (next_step s xs j) (next_step s xs j) refl)

start-other : (s : JobShop) (xs : List Placed) (j x : ℕ) → x ≢ next_step s xs j → start_in (place s xs j) x ≡ start_in xs x
start-other s xs j x other = cond-false (nat_eq (next_step s xs j) x) (ready s xs j) (start_in xs x) (ne_eqb (next_step s xs j) x (λ e. other (sym e)))

-- ---- one more step

-- the free instant of a machine after the next step of a job, by whether the step has positive time
pub free-after : (s : JobShop) (xs : List Placed) (j : ℕ) →
    cond (nat_lt 0 (time_of s (next_step s xs j))) (next_end s xs j)
    (machine_free s xs (machine_of s (next_step s xs j))) ≡ machine_free s (place s xs j)
    (machine_of s (next_step s xs j))
free-after s xs j = elim (cases_lt 0 (time_of s (next_step s xs j))) [
  | inl lasts ↦ cond-true (nat_lt 0 (time_of s (next_step s xs j))) (next_end s xs j)
      (machine_free s xs (machine_of s (next_step s xs j))) (lt-ltb 0 (time_of s (next_step s xs j)) lasts)
      ∙ sym (free-same s xs j lasts)
  | inr none ↦ cond-false (nat_lt 0 (time_of s (next_step s xs j))) (next_end s xs j)
      (machine_free s xs (machine_of s (next_step s xs j))) (le-ltb 0 (time_of s (next_step s xs j)) none)
      ∙ sym (free-at_once s xs j (machine_of s (next_step s xs j)) (omega (arith, none)))
]

pub place-keeps : (s : JobShop) (xs : List Placed) (done ends free starts : List ℕ) → Keeps s xs done ends free starts → (j d e m f x t : ℕ) → j < s.jobs → m < s.machines → x < count_steps s
    → d ≡ suc (steps_done xs j) → e ≡ next_end s xs j → m ≡ machine_of s (next_step s xs j) → f ≡ machine_free s (place s xs j) m → x ≡ next_step s xs j → t ≡ ready s xs j
    → Keeps s (place s xs j) (set done j d) (set ends j e) (set free m f) (set starts x t)
place-keeps s xs done ends free starts k j d e m f x t job machine step d_is e_is m_is f_is x_is t_is = record {
  done_size = length-set done j d ∙ k.done_size;
  ends_size = length-set ends j e ∙ k.ends_size;
  free_size = length-set free m f ∙ k.free_size;
  starts_size = length-set starts x t ∙ k.starts_size;
  done_is = dones;
  end_is = endings;
  free_is = frees;
  start_is = begins;
} where
  dones : (i : ℕ) → i < s.jobs → get_or (set done j d) i 0 ≡ steps_done (place s xs j) i
  dones i below = elim (cases_eq i j) [
    | inl same ↦ omega (
      arith,
      ap (λ n. get_or (set done j d) n 0) same,
      ap
          (λ n. steps_done (place s xs j) n) same,
      get_or-set_same done j d 0
          (omega (arith, k.done_size, job)),
      d_is,
      done-same s xs j,
    )
    | inr other ↦ get_or-set_other done j i d 0 other ∙ k.done_is i below ∙ sym (done-other s xs j i other)
  ]

  endings : (i : ℕ) → i < s.jobs → get_or (set ends j e) i 0 ≡ job_end s (place s xs j) i
  endings i below = elim (cases_eq i j) [
    | inl same ↦ omega (arith, ap (λ n. get_or (set ends j e) n 0) same, ap (λ n. job_end s (place s xs j) n) same, get_or-set_same ends j e 0 (omega (arith, k.ends_size, job)), e_is, end-same s xs j)
    | inr other ↦ get_or-set_other ends j i e 0 other ∙ k.end_is i below ∙ sym (end-other s xs j i other)
  ]

  frees : (i : ℕ) → i < s.machines → get_or (set free m f) i 0 ≡ machine_free s (place s xs j) i
  frees i below = elim (cases_eq i m) [
    | inl same ↦ omega (arith, ap (λ n. get_or (set free m f) n 0) same, ap (λ n. machine_free s (place s xs j) n) same, get_or-set_same free m f 0 (omega (arith, k.free_size, machine)), f_is)
    | inr other ↦ get_or-set_other free m i f 0 other ∙ k.free_is i below ∙ sym (free-other s xs j i (λ h. other (h ∙ sym m_is)))
  ]

  begins : (i : ℕ) → i < count_steps s → place_of s i < steps_done (place s xs j) (job_of s i) → get_or (set starts x t) i 0 ≡ start_in (place s xs j) i
  begins i below there = elim (cases_eq i x) [
    | inl same ↦ omega (
      arith,
      ap (λ n. get_or (set starts x t) n 0) same,
      ap (λ n. start_in (place s xs j) n)
          (same ∙ x_is),
      get_or-set_same starts x t 0
          (omega (arith, k.starts_size, step)),
      t_is,
      start-same s xs j,
    )
    | inr other ↦ elim (placed_cases s (record { job = j; step = next_step s xs j; start = ready s xs j }) xs refl i there) [
      | inl before ↦ get_or-set_other starts x i t 0 other ∙ k.start_is i below before ∙ sym (start-other s xs j i (λ h. other (h ∙ sym x_is)))
      | inr last ↦ absurd (other (last ∙ sym x_is))
    ]
  ]

-- ---- one step less

pub place-undone : (s : JobShop) (xs : List Placed) (done ends free starts : List ℕ) (j d e m f : ℕ) →
    Keeps s (place s xs j) done ends free starts → j < s.jobs → m < s.machines → steps_done xs j < s.machines
    → d ≡ steps_done xs j → e ≡ job_end s xs j → m ≡ machine_of s (next_step s xs j) → f ≡ machine_free s xs m
    → Keeps s xs (set done j d) (set ends j e) (set free m f) starts
place-undone s xs done ends free starts j d e m f k job machine next d_is e_is m_is f_is = record {
  done_size = length-set done j d ∙ k.done_size;
  ends_size = length-set ends j e ∙ k.ends_size;
  free_size = length-set free m f ∙ k.free_size;
  starts_size = k.starts_size;
  done_is = dones;
  end_is = endings;
  free_is = frees;
  start_is = begins;
} where
  dones : (i : ℕ) → i < s.jobs → get_or (set done j d) i 0 ≡ steps_done xs i
  dones i below = elim (cases_eq i j) [
    | inl same ↦ omega (arith, ap (λ n. get_or (set done j d) n 0) same, ap (λ n. steps_done xs n) same, get_or-set_same done j d 0 (omega (arith, k.done_size, job)), d_is)
    | inr other ↦ get_or-set_other done j i d 0 other ∙ k.done_is i below ∙ done-other s xs j i other
  ]

  endings : (i : ℕ) → i < s.jobs → get_or (set ends j e) i 0 ≡ job_end s xs i
  endings i below = elim (cases_eq i j) [
    | inl same ↦ omega (arith, ap (λ n. get_or (set ends j e) n 0) same, ap (λ n. job_end s xs n) same, get_or-set_same ends j e 0 (omega (arith, k.ends_size, job)), e_is)
    | inr other ↦ get_or-set_other ends j i e 0 other ∙ k.end_is i below ∙ end-other s xs j i other
  ]

  frees : (i : ℕ) → i < s.machines → get_or (set free m f) i 0 ≡ machine_free s xs i
  frees i below = elim (cases_eq i m) [
    | inl same ↦ omega (arith, ap (λ n. get_or (set free m f) n 0) same, ap (λ n. machine_free s xs n) same, get_or-set_same free m f 0 (omega (arith, k.free_size, machine)), f_is)
    | inr other ↦ get_or-set_other free m i f 0 other ∙ k.free_is i below ∙ free-other s xs j i (λ h. other (h ∙ sym m_is))
  ]

  begins : (i : ℕ) → i < count_steps s → place_of s i < steps_done xs (job_of s i) → get_or starts i 0 ≡ start_in xs i
  begins i below there =
      let other : i ≢ next_step s xs j = λ h. omega (
        arith,
        there,
        ap (place_of s) h,
        ap (job_of s) h,
        place_at s j (steps_done xs j) next,
        job_at s j
            (steps_done xs j) next,
        ap (λ n. steps_done xs n)
            (ap (job_of s) h ∙ job_at s j (steps_done xs j) next),
      ) in
      k.start_is i below (elim (cases_eq (job_of s i) j) [
        | inl same ↦ omega (arith, there, done-same s xs j, ap (λ n. steps_done xs n) same, ap (λ n. steps_done (place s xs j) n) same)
        | inr apart ↦ omega (arith, there, done-other s xs j (job_of s i) apart)
      ]) ∙ start-other s xs j i other
