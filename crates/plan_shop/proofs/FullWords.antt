-- Full words give schedules that are feasible and active.
use Rattle.std.proofs.Common.{◌≡◌, ◌≢◌, ℕ, zero, suc, ◌+◌, ◌-◌, ◌*◌, ◌≤◌, ◌<◌, true, nat_eq, ◌⊎◌, inl, inr, List, [], ◌∷◌, refl, sym, ◌∙◌, ap, arith}
use Rattle.std.proofs.lemmas.Bool.{cases_eq, cond-true, cond-false, eq-eqb, ne_eqb}
use Rattle.plan_sgs.specs.Problem.{count, IsFeasible, IsShift}
use Rattle.plan_shop.specs.Shop.{JobShop, IsShop, count_steps, time_of, machine_of, job_of, place_of, times_from, problem_of}
use Rattle.plan_shop.specs.Words.{Placed, steps_done, job_end, machine_free, next_step, ready, next_end, IsWord, is_full, start_in, starts_of}
use Rattle.plan_shop.specs.Continuation.{Agrees, Continues}
use Rattle.plan_shop.specs.Laws.{placed_in, FullIsFeasible, FullIsActive}
use Rattle.plan_shop.proofs.NumberLemmas.{length_table, get_or_table}
use Rattle.plan_shop.proofs.ShopBasics.{at, number_is, job_at, place_at, place_below, job_below, number_below, IsSound, apart_both, count_is, sound_from, feasible_from}
use Rattle.plan_shop.proofs.Reached.{Reached, IsRival, reached_by, may_follow, full_done, done_more, free_cases, ready_within, placed_cases, new_step, new_below, new_unplaced, new_placed, end_within, chain_of, apart_of, continues_less, ready_le, chain_to, agrees_other}

pub reached : (s : JobShop) (w : List ℕ) → IsWord s w → Reached s (placed_in s w)
reached s w is = reached_by s [] w tt is

pub start_new : (p : Placed) (xs : List Placed) (x : ℕ) → p.step ≡ x → start_in (p ∷ xs) x ≡ p.start
start_new p xs x e = cond-true (nat_eq p.step x) p.start (start_in xs x) (eq-eqb p.step x e)

pub start_old : (p : Placed) (xs : List Placed) (x : ℕ) → x ≢ p.step → start_in (p ∷ xs) x ≡ start_in xs x
start_old p xs x other = cond-false (nat_eq p.step x) p.start (start_in xs x) (ne_eqb p.step x (λ e. other (sym e)))

-- the starts of the placed steps are those
pub agrees_start : (s : JobShop) (xs : List Placed) → Reached s xs → Agrees (start_in xs) xs
agrees_start s [] r = tt
agrees_start s (p ∷ xs) r = (
  start_new p xs p.step refl,
  agrees_other s (start_in xs) (start_in (p ∷ xs)) xs p.step r.0 (new_unplaced s p xs r) (λ x other. start_old p xs x other) (agrees_start s xs r.0),
)

agrees_below : (s : JobShop) → IsShop s → (f g : ℕ → ℕ) (xs : List Placed) → Reached s xs → ((x : ℕ) → x < count_steps s → g x ≡ f x) → Agrees f xs → Agrees g xs
agrees_below s shop f g [] r same a = tt
agrees_below s shop f g (p ∷ xs) r same a = (same p.step (new_below s shop p xs r) ∙ a.0, agrees_below s shop f g xs r.0 same a.1)

pub agrees : (s : JobShop) → IsShop s → (xs : List Placed) → Reached s xs → Agrees (at (starts_of s xs)) xs
agrees s shop xs r = agrees_below s shop (start_in xs) (at (starts_of s xs)) xs r (λ x l. get_or_table (count_steps s) (start_in xs) x l) (agrees_start s xs r)

-- in a full schedule each step is placed
pub all_done : (s : JobShop) → IsShop s → (xs : List Placed) → is_full s xs ≡ true → (x : ℕ) → x < count_steps s → place_of s x < steps_done xs (job_of s x)
all_done s shop xs full x l = omega (arith, full_done s xs full (job_of s x) (job_below s shop x l), place_below s shop x)

pub full_sound : (s : JobShop) → IsShop s → (xs : List Placed) → Reached s xs → is_full s xs ≡ true → IsSound s (at (starts_of s xs))
full_sound s shop xs r full =
    let a : Agrees (at (starts_of s xs)) xs = agrees s shop xs r in
    record {
      chain = λ x l same. chain_of s (at (starts_of s xs)) xs r a x same (all_done s shop xs full (suc x) l);
      apart = λ x y l m same tx ty.
          let other : x ≢ y = λ e. omega (arith, l, e) in
          apart_of s (at (starts_of s xs)) xs r a x y other (all_done s shop xs full x (omega (arith, l, m))) (all_done s shop xs full y m) same tx ty;
    }

pub full_feasible : (s : JobShop) → IsShop s → (xs : List Placed) → Reached s xs → is_full s xs ≡ true → IsFeasible (problem_of s) (starts_of s xs)
full_feasible s shop xs r full = feasible_from s shop (starts_of s xs) (length_table (count_steps s) (start_in xs)) (full_sound s shop xs r full)

-- a full schedule continues the steps that it places, since none is unplaced
pub full_continues : (s : JobShop) → IsShop s → (xs : List Placed) → Reached s xs → is_full s xs ≡ true → Continues s (at (starts_of s xs)) xs
full_continues s shop xs r full = record {
  placed = agrees s shop xs r;
  unplaced = λ x xl l t. absurd (omega (arith, l, all_done s shop xs full x xl));
}

-- every full word is feasible
pub full_is_feasible : (s : JobShop) → IsShop s → FullIsFeasible s
unfolding FullIsFeasible
full_is_feasible s shop w is full = full_feasible s shop (placed_in s w) (reached s w is) full

-- two feasible schedules; the other has one step earlier and is the same elsewhere
pub record IsMoved (s : JobShop) (starts other : ℕ → ℕ) (x : ℕ) : Type 0 where
  pub below : x < count_steps s
  pub sound : IsSound s starts
  pub sound_other : IsSound s other
  pub less : other x < starts x
  pub rest : (y : ℕ) → y ≢ x → other y ≡ starts y

-- the moved step starts no earlier than the step before it in its job ends
ended_by : (s : JobShop) → IsShop s → (starts other : ℕ → ℕ) (x : ℕ) → IsMoved s starts other x →
    (zs : List Placed) → Reached s zs → Agrees starts zs → steps_done zs (job_of s x) ≡ place_of s x →
    job_end s zs (job_of s x) ≤ other x
ended_by s shop starts other x moved zs r a done = end_within s starts zs r a (job_of s x) (other x) last where
  last : (k : ℕ) → steps_done zs (job_of s x) ≡ suc k → starts (job_of s x * s.machines + k) + time_of s (job_of s x * s.machines + k) ≤ other x
  last k e =
      let y = job_of s x * s.machines + k in
      let after : suc y ≡ x = omega (arith, number_is s x, done, e) in
      let before : y ≢ x = λ i. omega (arith, after, i) in
      let same : job_of s (suc y) ≡ job_of s y = ap (job_of s) after ∙ sym (job_at s (job_of s x) k (omega (arith, e, done, place_below s shop x))) in
      omega (arith, moved.sound_other.chain y (omega (arith, after, moved.below)) same, moved.rest y before, ap other after)

times_first : (s : JobShop) (y n : ℕ) → 0 < n → time_of s y ≤ times_from s y n
times_first s y zero h = absurd (omega (arith, h))
times_first s y (suc n) h = omega arith

-- the next step of the moved step's job would end by the moved step's new end, if its machine is
-- free by its new start
soon : (s : JobShop) → IsShop s → (starts other : ℕ → ℕ) (x : ℕ) → IsMoved s starts other x →
    (zs : List Placed) → Reached s zs → Continues s starts zs → steps_done zs (job_of s x) ≤ place_of s x →
    (0 < time_of s x → machine_free s zs (machine_of s x) ≤ other x)
    → next_end s zs (job_of s x) ≤ other x + time_of s x
soon s shop starts other x moved zs r con l free = elim (cases_eq (steps_done zs (job_of s x)) (place_of s x)) [
  | inl here ↦
      let y = next_step s zs (job_of s x) in
      let is : y ≡ x = omega (arith, number_is s x, here) in
      let early : ready s zs (job_of s x) ≤ other x =
      ready_within s zs (job_of s x) (other x) (ended_by s shop starts other x moved zs r con.placed here)
      (λ t. omega (
        arith,
        free (omega (arith, t, ap (time_of s) is)),
        ap
            (λ z. machine_free s zs (machine_of s z)) is,
      )) in
      omega (arith, early, ap (time_of s) is)
  | inr apart ↦
      let j = job_of s x in
      let k = steps_done zs j in
      let y = next_step s zs j in
      let low : k < place_of s x = omega (arith, l, apart) in
      let last : place_of s x < s.machines = place_below s shop x in
      let job : j < s.jobs = job_below s shop x moved.below in
      let early : ready s zs j ≤ starts y = ready_le s shop starts zs r moved.sound con j job (omega (arith, low, last)) in
      let before : y ≢ x = λ i. omega (arith, i, low, number_is s x) in
      let place : place_of s y ≡ k = place_at s j k (omega (arith, low, last)) in
      let there : y + (place_of s x - k) ≡ x = omega (arith, number_is s x, low) in
      let reach : other y + times_from s y (place_of s x - k) ≤ other (y + (place_of s x - k)) =
      chain_to s shop other moved.sound_other (place_of s x - k) y
      (number_below s shop j k job (omega (arith, low, last))) (omega (arith, place, low, last)) in
      let first : time_of s y ≤ times_from s y (place_of s x - k) = times_first s y (place_of s x - k) (omega (arith, low)) in
      omega (arith, early, reach, first, moved.rest y before, ap other there)
]

-- as long as the moved step isn't placed, its machine is free by its new start
pub free_le : (s : JobShop) → IsShop s → (starts other : ℕ → ℕ) (x : ℕ) → IsMoved s starts other x →
    (zs : List Placed) → Reached s zs → Continues s starts zs → steps_done zs (job_of s x) ≤ place_of s x →
    0 < time_of s x → machine_free s zs (machine_of s x) ≤ other x
free_le s shop starts other x moved [] r con l t = omega arith
free_le s shop starts other x moved (p ∷ zs) r con l t =
    let con' : Continues s starts zs = continues_less s starts p zs r con in
    let l' : steps_done zs (job_of s x) ≤ place_of s x = omega (arith, l, done_more p zs (job_of s x)) in
    let free : machine_free s zs (machine_of s x) ≤ other x = free_le s shop starts other x moved zs r.0 con' l' t in
    elim (free_cases s p zs (machine_of s x)) [
      | inr is ↦ omega (arith, is, free)
      | inl (same, tp, is) ↦
          let here : other p.step ≡ p.start = moved.rest p.step apart ∙ con.placed.0 in
          elim (apart_both s other moved.sound_other p.step x apart (new_below s shop p zs r) moved.below same tp t) [
            | inl before ↦ omega (arith, is, free, before, here)
            | inr after ↦ absurd (late tp (omega (arith, after, here)) (soon s shop starts other x moved zs r.0 con' l' (λ _. free)) (may_follow s zs p.job r.1).choice)
          ]
    ] where
      apart : p.step ≢ x
      apart e = omega (arith, l, new_placed s p zs r, ap (place_of s) e, ap (λ y. steps_done (p ∷ zs) (job_of s y)) e)

      late : 0 < time_of s p.step → other x + time_of s x ≤ p.start → next_end s zs (job_of s x) ≤ other x + time_of s x → (time_of s (next_step s zs p.job) ≡ 0) ⊎ IsRival s zs p.job → ⊥
      late tp after end (inl none) = omega (arith, none, tp, ap (time_of s) r.2)
      late tp after end (inr rival) =
          let least : next_end s zs rival.first ≤ next_end s zs (job_of s x) =
          rival.least (job_of s x) (job_below s shop x moved.below)
          (omega (arith, l, done_more p zs (job_of s x), place_below s shop x)) in
          omega (arith, after, end, least, rival.sooner, r.3)

-- if a schedule continues a word, no step of the word can move to an earlier start alone
pub not_moved : (s : JobShop) → IsShop s → (starts other : ℕ → ℕ) (x : ℕ) → IsMoved s starts other x →
    (zs : List Placed) → Reached s zs → Continues s starts zs → place_of s x < steps_done zs (job_of s x) → ⊥
not_moved s shop starts other x moved [] r con l = omega (arith, l)
not_moved s shop starts other x moved (p ∷ zs) r con l = elim (placed_cases s p zs r.2 x l) [
  | inl before ↦ not_moved s shop starts other x moved zs r.0 (continues_less s starts p zs r con) before
  | inr new ↦
      let con' : Continues s starts zs = continues_less s starts p zs r con in
      let n = new_step s p zs r in
      let job : job_of s x ≡ p.job = ap (job_of s) new ∙ n.0 in
      let done : steps_done zs (job_of s x) ≡ place_of s x = omega (arith, n.1, ap (place_of s) new, ap (steps_done zs) job) in
      let is : next_step s zs p.job ≡ x = sym r.2 ∙ sym new in
      let ended : job_end s zs p.job ≤ other x = omega (arith, ended_by s shop starts other x moved zs r.0 con'.placed done, ap (job_end s zs) job) in
      let early : ready s zs p.job ≤ other x = ready_within s zs p.job (other x) ended
      (λ t. omega (
        arith,
        free_le s shop starts other x moved zs r.0 con' (omega (arith, done))
            (omega (arith, t, ap (time_of s) is)),
        ap (λ z. machine_free s zs (machine_of s z)) is,
      )) in
      omega (arith, early, moved.less, r.3, con.placed.0, ap starts new)
]

-- every full word is active
pub full_is_active : (s : JobShop) → IsShop s → FullIsActive s
unfolding FullIsActive
full_is_active s shop w is full = record { feasible = feasible; no_shift = no_shift } where
  xs : List Placed
  xs = placed_in s w

  r : Reached s xs
  r = reached s w is

  feasible : IsFeasible (problem_of s) (starts_of s xs)
  feasible = full_feasible s shop xs r full

  no_shift : (other : List ℕ) (i : ℕ) → i < count (problem_of s) → IsShift (starts_of s xs) other i → IsFeasible (problem_of s) other → ⊥
  no_shift other i l shift f =
      let below : i < count_steps s = omega (arith, l, count_is s) in
      let moved : IsMoved s (at (starts_of s xs)) (at other) i = record {
        below = below;
        sound = full_sound s shop xs r full;
        sound_other = sound_from s shop other f;
        less = shift.less;
        rest = shift.rest;
      } in
      not_moved s shop (at (starts_of s xs)) (at other) i moved xs r (full_continues s shop xs r full) (all_done s shop xs full i below)
