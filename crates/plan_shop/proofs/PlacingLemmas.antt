-- The effect of placing one more step on the counts, the ends and the free instants, and limits on
-- them.
use Rattle.std.proofs.Common.{◌≡◌, ◌≢◌, ℕ, suc, ◌+◌, ◌*◌, ◌≤◌, ◌<◌, ◌&&◌, inl, inr, max, true, false, List, [], ◌∷◌, length, refl, sym, ap, subst, arith}
use Rattle.std.specs.Prelude.{nat_lt, nat_eq}
use Rattle.std.proofs.lemmas.Bool.{cond-true, cond-false, cases_Bool, cases_eq, cases_lt, eq-eqb, ne_eqb, and_left, and_right, and_from, lt-ltb, le-ltb}
use Rattle.std.proofs.lemmas.List.{get_or_past}
use Rattle.std.proofs.Math.Nat.{mul-le-mul}
use Rattle.plan_sgs.specs.Problem.{total}
use Rattle.plan_sgs.proofs.TotalLemmas.{total_changed, total_limit, total_none}
use Rattle.plan_orlib.specs.declared.steps.Step.{Step}
use Rattle.plan_shop.specs.declared.tree.Turn.{Turn}
use Rattle.plan_shop.specs.Shop.{JobShop, idle, time_of, machine_of}
use Rattle.plan_shop.specs.Words.{Placed, steps_done, job_end, machine_free, next_step, next_end, raised, ready, place, placed_by, job_of_letter, start_in}
use Rattle.plan_shop.specs.Docs.{IsSmallShop}
use Rattle.plan_shop.specs.Trees.{AreTurns, word_of}
use Rattle.plan_shop.specs.Laws.{placed_in}
use Rattle.plan_shop.proofs.NextLemmas.{letter_is}

-- ---- one more step

pub done-same : (s : JobShop) (xs : List Placed) (j : ℕ) → steps_done (place s xs j) j ≡ suc (steps_done xs j)
done-same s xs j = cond-true (nat_eq j j) (suc (steps_done xs j)) (steps_done xs j) (eq-eqb j j refl)

pub done-other : (s : JobShop) (xs : List Placed) (j k : ℕ) → k ≢ j → steps_done (place s xs j) k ≡ steps_done xs k
done-other s xs j k other = cond-false (nat_eq j k) (suc (steps_done xs k)) (steps_done xs k) (ne_eqb j k (λ e. other (sym e)))

pub end-same : (s : JobShop) (xs : List Placed) (j : ℕ) → job_end s (place s xs j) j ≡ next_end s xs j
end-same s xs j = cond-true (nat_eq j j) (next_end s xs j) (job_end s xs j) (eq-eqb j j refl)

pub end-other : (s : JobShop) (xs : List Placed) (j k : ℕ) → k ≢ j → job_end s (place s xs j) k ≡ job_end s xs k
end-other s xs j k other = cond-false (nat_eq j k) (next_end s xs j) (job_end s xs k) (ne_eqb j k (λ e. other (sym e)))

-- the head of the next step isn't before its machine is free, if the step has positive time
pub ready-free : (s : JobShop) (xs : List Placed) (j : ℕ) → 0 < time_of s (next_step s xs j) → machine_free s xs (machine_of s (next_step s xs j)) ≤ ready s xs j
unfolding ready
ready-free s xs j lasts =
    let positive : nat_eq (time_of s (next_step s xs j)) 0 ≡ false = ne_eqb (time_of s (next_step s xs j)) 0 (λ e. omega (arith, lasts, e)) in
    let is : raised (time_of s (next_step s xs j)) (job_end s xs j) (machine_free s xs (machine_of s (next_step s xs j))) ≡ max (job_end s xs j) (machine_free s xs (machine_of s (next_step s xs j))) =
    cond-false (nat_eq (time_of s (next_step s xs j)) 0) (job_end s xs j) (max (job_end s xs j) (machine_free s xs (machine_of s (next_step s xs j)))) positive in
    omega (arith, is)

pub free-same : (s : JobShop) (xs : List Placed) (j : ℕ) → 0 < time_of s (next_step s xs j) → machine_free s (place s xs j) (machine_of s (next_step s xs j)) ≡ next_end s xs j
free-same s xs j lasts =
    let m : ℕ = machine_of s (next_step s xs j) in
    let here : (nat_eq m m && nat_lt 0 (time_of s (next_step s xs j))) ≡ true =
    and_from (nat_eq m m) (nat_lt 0 (time_of s (next_step s xs j))) (eq-eqb m m refl)
    (lt-ltb 0 (time_of s (next_step s xs j)) lasts) in
    let is : machine_free s (place s xs j) m ≡ max (next_end s xs j) (machine_free s xs m) =
    cond-true (nat_eq m m && nat_lt 0 (time_of s (next_step s xs j)))
    (max (next_end s xs j) (machine_free s xs m)) (machine_free s xs m) here in
    omega (arith, is, ready-free s xs j lasts)

pub free-other : (s : JobShop) (xs : List Placed) (j m : ℕ) → m ≢ machine_of s (next_step s xs j) → machine_free s (place s xs j) m ≡ machine_free s xs m
free-other s xs j m other =
    cond-false (nat_eq (machine_of s (next_step s xs j)) m && nat_lt 0 (time_of s (next_step s xs j))) (max (next_end s xs j) (machine_free s xs m)) (machine_free s xs m)
    (and_left (nat_eq (machine_of s (next_step s xs j)) m) (nat_lt 0 (time_of s (next_step s xs j))) (ne_eqb (machine_of s (next_step s xs j)) m (λ e. other (sym e))))

pub free-at_once : (s : JobShop) (xs : List Placed) (j m : ℕ) → time_of s (next_step s xs j) ≡ 0 → machine_free s (place s xs j) m ≡ machine_free s xs m
free-at_once s xs j m none =
    cond-false (nat_eq (machine_of s (next_step s xs j)) m && nat_lt 0 (time_of s (next_step s xs j))) (max (next_end s xs j) (machine_free s xs m)) (machine_free s xs m)
    (and_right (nat_eq (machine_of s (next_step s xs j)) m) (nat_lt 0 (time_of s (next_step s xs j))) (le-ltb 0 (time_of s (next_step s xs j)) (omega (arith, none))))

-- ---- limits

-- all ends are at most b
pub record EndsWithin (s : JobShop) (xs : List Placed) (b : ℕ) : Type 0 where
  pub jobs : (j : ℕ) → job_end s xs j ≤ b
  pub machines : (m : ℕ) → machine_free s xs m ≤ b
  pub starts : (x : ℕ) → start_in xs x ≤ b

pub ready-within : (s : JobShop) (xs : List Placed) (b : ℕ) → EndsWithin s xs b → (j : ℕ) → ready s xs j ≤ b
unfolding ready
ready-within s xs b within j = elim (cases_Bool (nat_eq (time_of s (next_step s xs j)) 0)) [
  | inl none ↦ omega (arith, cond-true (nat_eq (time_of s (next_step s xs j)) 0) (job_end s xs j) (max (job_end s xs j) (machine_free s xs (machine_of s (next_step s xs j)))) none, within.jobs j)
  | inr some ↦ omega (
    arith,
    cond-false (nat_eq (time_of s (next_step s xs j)) 0) (job_end s xs j)
        (max (job_end s xs j) (machine_free s xs (machine_of s (next_step s xs j)))) some,
    within.jobs j,
    within.machines (machine_of s (next_step s xs j)),
  )
]

-- no step lasts longer than 10,000
pub time-short : (s : JobShop) → IsSmallShop s → (x : ℕ) → time_of s x ≤ 10000
time-short s small x = elim (cases_lt x (length s.steps)) [
  | inl inside ↦ small.short x idle inside
  | inr outside ↦ omega (arith, ap (λ (w : Step). w.time) (get_or_past s.steps x idle outside))
]

place-within : (s : JobShop) (xs : List Placed) (b : ℕ) → IsSmallShop s → EndsWithin s xs b → (j : ℕ) → EndsWithin s (place s xs j) (b + 10000)
place-within s xs b small within j = record { jobs = ends; machines = frees; starts = begins } where
  begins : (x : ℕ) → start_in (place s xs j) x ≤ b + 10000
  begins x = elim (cases_Bool (nat_eq (next_step s xs j) x)) [
    | inl here ↦ omega (arith, cond-true (nat_eq (next_step s xs j) x) (ready s xs j) (start_in xs x) here, ready-within s xs b within j)
    | inr other ↦ omega (arith, cond-false (nat_eq (next_step s xs j) x) (ready s xs j) (start_in xs x) other, within.starts x)
  ]

  ends : (k : ℕ) → job_end s (place s xs j) k ≤ b + 10000
  ends k = elim (cases_eq k j) [
    | inl same ↦ omega (arith, ap (λ i. job_end s (place s xs j) i) same, end-same s xs j, ready-within s xs b within j, time-short s small (next_step s xs j))
    | inr other ↦ omega (arith, end-other s xs j k other, within.jobs k)
  ]

  frees : (m : ℕ) → machine_free s (place s xs j) m ≤ b + 10000
  frees m = elim (cases_eq m (machine_of s (next_step s xs j))) [
    | inl same ↦ elim (cases_lt 0 (time_of s (next_step s xs j))) [
      | inl lasts ↦ omega (arith, ap (λ i. machine_free s (place s xs j) i) same, free-same s xs j lasts, ready-within s xs b within j, time-short s small (next_step s xs j))
      | inr none ↦ omega (arith, free-at_once s xs j m (omega (arith, none)), within.machines m)
    ]
    | inr other ↦ omega (arith, free-other s xs j m other, within.machines m)
  ]

turns-within : (s : JobShop) (xs : List Placed) (turns : List Turn) (b : ℕ) → IsSmallShop s → EndsWithin s xs b → EndsWithin s (placed_by s xs (word_of turns)) (b + length turns * 10000)
turns-within s xs [] b small within =
    let Q : ℕ → Type 0 = λ n. EndsWithin s xs n in
    let is : b ≡ b + length {A = Turn} [] * 10000 = omega arith in
    subst Q is within
turns-within s xs (turn ∷ turns) b small within =
    let ys : List Placed = place s xs (job_of_letter turn.letter) in
    let rest = turns-within s ys turns (b + 10000) small (place-within s xs b small within (job_of_letter turn.letter)) in
    let Q : ℕ → Type 0 = λ n. EndsWithin s (placed_by s ys (word_of turns)) n in
    let is : b + 10000 + length turns * 10000 ≡ b + length (turn ∷ turns) * 10000 = omega arith in
    subst Q is rest

-- no job has more placed steps than steps
pub IsWithin : JobShop → List Placed → Type 0
IsWithin s xs = (j : ℕ) → steps_done xs j ≤ s.machines

place-done : (s : JobShop) (xs : List Placed) (j : ℕ) → steps_done xs j < s.machines → IsWithin s xs → IsWithin s (place s xs j)
unfolding IsWithin
place-done s xs j next within k = elim (cases_eq k j) [
  | inl same ↦ omega (arith, ap (λ i. steps_done (place s xs j) i) same, done-same s xs j, next)
  | inr other ↦ omega (arith, done-other s xs j k other, within k)
]

turns-done : (s : JobShop) (xs : List Placed) (turns : List Turn) → AreTurns s xs turns → IsWithin s xs → IsWithin s (placed_by s xs (word_of turns))
turns-done s xs [] are within = within
turns-done s xs (turn ∷ turns) are within =
    let letter = letter_is s xs turn.letter are.0.follows in
    turns-done s (place s xs (job_of_letter turn.letter)) turns are.1 (place-done s xs (job_of_letter turn.letter) letter.next within)

-- each turn places one step
turns-count : (s : JobShop) (xs : List Placed) (turns : List Turn) → AreTurns s xs turns → total s.jobs (steps_done (placed_by s xs (word_of turns))) ≡ total s.jobs (steps_done xs) + length turns
turns-count s xs [] are = omega arith
turns-count s xs (turn ∷ turns) are =
    let j : ℕ = job_of_letter turn.letter in
    let letter = letter_is s xs turn.letter are.0.follows in
    let more : total s.jobs (steps_done xs) + 1 ≡ total s.jobs (steps_done (place s xs j)) =
    total_changed s.jobs (steps_done xs) (steps_done (place s xs j)) j 1 letter.job (λ i below other. sym (done-other s xs j i other)) (omega (arith, done-same s xs j)) in
    omega (arith, more, turns-count s (place s xs j) turns are.1)

-- facts of the steps that turns have placed
pub record IsPlacedWithin (s : JobShop) (xs : List Placed) : Type 0 where
  pub done : (j : ℕ) → steps_done xs j ≤ s.machines
  pub ends : (j : ℕ) → job_end s xs j ≤ 10000000
  pub frees : (m : ℕ) → machine_free s xs m ≤ 10000000
  pub readies : (j : ℕ) → ready s xs j ≤ 10000000
  pub starts : (x : ℕ) → start_in xs x ≤ 10000000

pub placed-within : (s : JobShop) (turns : List Turn) → IsSmallShop s → AreTurns s [] turns → IsPlacedWithin s (placed_in s (word_of turns))
unfolding IsWithin
placed-within s turns small are =
    let xs : List Placed = placed_in s (word_of turns) in
    let done : IsWithin s xs = turns-done s [] turns are (λ j. omega arith) in
    let within = turns-within s [] turns 0 small (record { jobs = λ j. omega arith; machines = λ m. omega arith; starts = λ x. omega arith }) in
    let none : total s.jobs (steps_done []) ≡ 0 = total_none s.jobs (steps_done []) (λ i below. refl) in
    let most : total s.jobs (steps_done xs) ≤ s.machines * s.jobs = total_limit s.jobs (steps_done xs) s.machines (λ i below. done i) in
    let few : s.machines * s.jobs ≤ 20 * 50 = mul-le-mul small.few_machines small.few_jobs in
    let count : length turns ≤ 1000 = omega (arith, turns-count s [] turns are, none, most, few) in
    record {
      done = done;
      ends = λ j. omega (arith, within.jobs j, count);
      frees = λ m. omega (arith, within.machines m, count);
      starts = λ x. omega (arith, within.starts x, count);
      readies = λ j. omega (arith, ready-within s xs (0 + length turns * 10000) within j, count);
    }
