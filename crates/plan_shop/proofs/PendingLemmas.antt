-- Heads along a job, and the pending steps of a machine.
use Rattle.std.proofs.Common.{◌≡◌, ◌≢◌, ℕ, zero, suc, ◌+◌, ◌-◌, ◌*◌, ◌≤◌, ◌<◌, ◌&&◌, inl, inr, min, true, false, cond, List, [], ◌∷◌, ◌++◌, length, get_or, slice_index, replicate, set, Some, refl, sym, ap, ◌∙◌, subst, arith}
use Rattle.std.specs.Prelude.{nat_eq, nat_lt, not}
use Rattle.std.specs.List.{slice_get}
use Rattle.std.proofs.Math.Nat.{mul-le-mul}
use Rattle.plan_orlib.specs.declared.steps.Step.{Step}
use Rattle.std.proofs.lemmas.Bool.{cases_eq, cond-true, cond-false, eq-eqb, ne_eqb, lt-ltb, le-ltb, and_from, and_left, and_right, ltb-true}
use Rattle.std.proofs.lemmas.List.{get_or-set_same, get_or-set_other, get_or-replicate, length-set, length-replicate}
use Rattle.std.proofs.lemmas.List.Sums.{sum_by_push}
use Rattle.plan_shop.specs.declared.tree.bound.Pending.{Pending}
use Rattle.plan_shop.specs.Shop.{JobShop, IsShop, count_steps, idle, time_of, machine_of, job_of, place_of, times_from, those_below}
use Rattle.plan_shop.specs.Words.{least_of, Placed, steps_done, job_end, machine_free, is_placed, has_next, next_step, raised, ready}
use Rattle.plan_shop.specs.Bound.{head_at, head_of, tail_of, pending, bound_of_pending, job_bound}
use Rattle.plan_shop.specs.Docs.{IsSmallShop}
use Rattle.plan_shop.specs.Rules.{time_left}
use Rattle.plan_shop.specs.Trees.{Standing, standing, placed, is_pending, OnMachine, on_machine, IsPendingOf, IsGathered}
use Rattle.plan_shop.proofs.ShopBasics.{job_at, place_at, number_below}
use Rattle.plan_shop.proofs.TailLemmas.{step-is}
use Rattle.plan_shop.proofs.PlacingLemmas.{time-short}
use Rattle.plan_shop.proofs.LetterLemmas.{those-yes, those-no}

-- ---- heads

-- the end of the job before the step k after its next one
abbrev pub end_at : JobShop → List Placed → ℕ → ℕ → ℕ
end_at s xs j zero = job_end s xs j
end_at s xs j (suc k) = head_at s xs j k + time_of s (next_step s xs j + k)

pub head_at-is : (s : JobShop) (xs : List Placed) (j k : ℕ) → head_at s xs j k ≡ raised (time_of s (next_step s xs j + k)) (end_at s xs j k) (machine_free s xs (machine_of s (next_step s xs j + k)))
unfolding ready
head_at-is s xs j zero =
    let same : next_step s xs j ≡ next_step s xs j + 0 = omega arith in
    ap (λ x. raised (time_of s x) (job_end s xs j) (machine_free s xs (machine_of s x))) same
head_at-is s xs j (suc k) = refl

pub times_from-short : (s : JobShop) → IsSmallShop s → (n x : ℕ) → times_from s x n ≤ n * 10000
times_from-short s small zero x = omega arith
times_from-short s small (suc n) x = omega (arith, times_from-short s small n (suc x), time-short s small x)

pub tail_of-short : (s : JobShop) → IsSmallShop s → (x : ℕ) → tail_of s x ≤ 200000
tail_of-short s small x = omega (arith, times_from-short s small (s.machines - suc (place_of s x)) (suc x), small.few_machines)

pub head_of-is : (s : JobShop) (xs : List Placed) (j i : ℕ) → i < s.machines → head_of s xs (j * s.machines + i) ≡ head_at s xs j (i - steps_done xs j)
head_of-is s xs j i below =
    ap (λ k. head_at s xs k (place_of s (j * s.machines + i) - steps_done xs k)) (job_at s j i below)
    ∙ ap (λ k. head_at s xs j (k - steps_done xs j)) (place_at s j i below)

-- ---- what is pending

least_of-more : (f : ℕ → ℕ) (x : ℕ) (ys : List ℕ) (z : ℕ) → least_of f x (ys ++ z ∷ []) ≡ min (least_of f x ys) (f z)
least_of-more f x [] z = refl
least_of-more f x (y ∷ ys) z = omega (arith, least_of-more f y ys z)

-- one more step among the pending ones
pub record IsWithStep (t : Standing) (x : ℕ) (p q : OnMachine) : Type 0 where
  pub lasts : 0 < time_of t.shop x
  pub early : head_of t.shop (placed t) x ≤ 20000000
  pub tail_early : tail_of t.shop x ≤ 1000000
  pub head : q.head ≡ min p.head (head_of t.shop (placed t) x)
  pub times : q.times ≡ p.times + time_of t.shop x
  pub tail : q.tail ≡ min p.tail (tail_of t.shop x)

with_step : (t : Standing) (x : ℕ) (p q : OnMachine) (zs : List ℕ) → IsPendingOf t zs p → IsWithStep t x p q → IsPendingOf t (zs ++ x ∷ []) q
with_step t x p q [] is w = (
  omega (arith, w.times, w.lasts),
  omega (arith, w.times, is.0, sum_by_push (time_of t.shop) [] x),
  omega (arith, w.head, w.early, is.1),
  omega (arith, w.tail, w.tail_early, is.2),
  omega (arith, w.head, w.early),
  omega (arith, w.tail, w.tail_early),
)
with_step t x p q (y ∷ ys) is w = (
  omega (arith, w.times, w.lasts),
  omega (arith, w.times, is.1, sum_by_push (time_of t.shop) (y ∷ ys) x),
  omega (arith, w.head, is.2, least_of-more (head_of t.shop (placed t)) y ys x),
  omega (arith, w.tail, is.3, least_of-more (tail_of t.shop) y ys x),
  omega (arith, w.head, w.early),
  omega (arith, w.tail, w.tail_early),
)

-- before the first step
pub gathered-none : (t : Standing) (pending : Pending) → IsSmallShop t.shop →
    pending ≡ record {
      heads = replicate 20 1000000000;
      times = replicate 20 0;
      tails =
          replicate 20 1000000000;
    } → IsGathered t 0 pending
gathered-none t pending small is = record {
  heads_size = ap (λ (p : Pending). length p.heads) is ∙ length-replicate {A = ℕ} 20 1000000000;
  times_size = ap (λ (p : Pending). length p.times) is ∙ length-replicate {A = ℕ} 20 0;
  tails_size = ap (λ (p : Pending). length p.tails) is ∙ length-replicate {A = ℕ} 20 1000000000;
  each = λ m below. (
    ap (λ (p : Pending). slice_index p.times m) is ∙ get_or-replicate {A = ℕ} 20 m 0 0 (omega (arith, below, small.few_machines)),
    omega (arith, ap (λ (p : Pending). slice_index p.heads m) is ∙ get_or-replicate {A = ℕ} 20 m 1000000000 0 (omega (arith, below, small.few_machines))),
    omega (arith, ap (λ (p : Pending). slice_index p.tails m) is ∙ get_or-replicate {A = ℕ} 20 m 1000000000 0 (omega (arith, below, small.few_machines))),
  );
  few = λ m below. omega (arith, ap (λ (p : Pending). slice_index p.times m) is ∙ get_or-replicate {A = ℕ} 20 m 0 0 (omega (arith, below, small.few_machines)));
}

-- a step that is placed, or has time 0
pub gathered-skips : (t : Standing) (x : ℕ) (pending : Pending) → IsGathered t x pending → ((m : ℕ) → is_pending t m x ≡ false) → IsGathered t (suc x) pending
gathered-skips t x pending g none = record {
  heads_size = g.heads_size;
  times_size = g.times_size;
  tails_size = g.tails_size;
  each = λ m below. let Q : List ℕ → Type 0 = λ zs. IsPendingOf t zs (on_machine pending m) in subst Q (sym (those-no x (is_pending t m) (none m))) (g.each m below);
  few = λ m below. omega (arith, g.few m below);
}

-- the placed steps of a job
pub gathered-placed : (t : Standing) (j k : ℕ) (pending : Pending) →
    IsGathered t (j * t.shop.machines) pending → k ≤ steps_done (placed t) j → k ≤ t.shop.machines →
    IsGathered t (j * t.shop.machines + k) pending
gathered-placed t j zero pending g low inside =
    let Q : ℕ → Type 0 = λ n. IsGathered t n pending in
    let same : j * t.shop.machines ≡ j * t.shop.machines + 0 = omega arith in
    subst Q same g
gathered-placed t j (suc k) pending g low inside =
    let Q : ℕ → Type 0 = λ n. IsGathered t n pending in
    let x : ℕ = j * t.shop.machines + k in
    let before = gathered-placed t j k pending g (omega (arith, low)) (omega (arith, inside)) in
    let there : is_placed t.shop (placed t) x ≡ true = lt-ltb (place_of t.shop x) (steps_done (placed t) (job_of t.shop x))
    (omega (arith, low, place_at t.shop j k (omega (arith, inside)), ap (λ i. steps_done (placed t) i) (job_at t.shop j k (omega (arith, inside))))) in
    let same : suc x ≡ j * t.shop.machines + suc k = omega arith in
    subst Q same (gathered-skips t x pending before (λ m. and_left (not (is_placed t.shop (placed t) x)) (nat_eq (machine_of t.shop x) m && nat_lt 0 (time_of t.shop x)) (ap not there)))

pub gathered-at_once : (t : Standing) (x : ℕ) (pending : Pending) → IsGathered t x pending → time_of t.shop x ≡ 0 → IsGathered t (suc x) pending
gathered-at_once t x pending g none =
    gathered-skips t x pending g (λ m. and_right (not (is_placed t.shop (placed t) x)) (nat_eq (machine_of t.shop x) m && nat_lt 0 (time_of t.shop x))
    (and_right (nat_eq (machine_of t.shop x) m) (nat_lt 0 (time_of t.shop x)) (le-ltb 0 (time_of t.shop x) (omega (arith, none)))))

same_parts : (p q : OnMachine) → p.head ≡ q.head → p.times ≡ q.times → p.tail ≡ q.tail → p ≡ q
same_parts p q head times tail =
    ap (λ (n : ℕ). record { head = n; times = p.times; tail = p.tail }) head
    ∙ ap (λ (n : ℕ). record { head = q.head; times = n; tail = p.tail }) times
    ∙ ap (λ (n : ℕ). record { head = q.head; times = q.times; tail = n }) tail

-- a machine's part is replaced, and those of the others stay
pub record IsReplaced (old new : Pending) (m : ℕ) (q : OnMachine) : Type 0 where
  pub heads : new.heads ≡ set old.heads m q.head
  pub times : new.times ≡ set old.times m q.times
  pub tails : new.tails ≡ set old.tails m q.tail

replaced-same : (old new : Pending) (m : ℕ) (q : OnMachine) → m < length old.heads → m < length old.times → m < length old.tails → IsReplaced old new m q → on_machine new m ≡ q
replaced-same old new m q heads times tails r =
    let head : get_or new.heads m 0 ≡ q.head = ap (λ (xs : List ℕ). get_or xs m 0) r.heads ∙ get_or-set_same old.heads m q.head 0 heads in
    let time : get_or new.times m 0 ≡ q.times = ap (λ (xs : List ℕ). get_or xs m 0) r.times ∙ get_or-set_same old.times m q.times 0 times in
    let tail : get_or new.tails m 0 ≡ q.tail = ap (λ (xs : List ℕ). get_or xs m 0) r.tails ∙ get_or-set_same old.tails m q.tail 0 tails in
    same_parts (on_machine new m) q head time tail

replaced-other : (old new : Pending) (m i : ℕ) (q : OnMachine) → i ≢ m → IsReplaced old new m q → on_machine new i ≡ on_machine old i
replaced-other old new m i q other r =
    let head : get_or new.heads i 0 ≡ get_or old.heads i 0 = ap (λ (xs : List ℕ). get_or xs i 0) r.heads ∙ get_or-set_other old.heads m i q.head 0 other in
    let time : get_or new.times i 0 ≡ get_or old.times i 0 = ap (λ (xs : List ℕ). get_or xs i 0) r.times ∙ get_or-set_other old.times m i q.times 0 other in
    let tail : get_or new.tails i 0 ≡ get_or old.tails i 0 = ap (λ (xs : List ℕ). get_or xs i 0) r.tails ∙ get_or-set_other old.tails m i q.tail 0 other in
    same_parts (on_machine new i) (on_machine old i) head time tail

-- an unplaced step of positive time
pub gathered-more : (t : Standing) (x : ℕ) (pending new : Pending) → IsSmallShop t.shop →
    IsGathered t x pending → is_placed t.shop (placed t) x ≡ false → (m : ℕ) → m < t.shop.machines →
    m ≡ machine_of t.shop x
    → (q : OnMachine) → IsWithStep t x (on_machine pending m) q → IsReplaced pending new m q → IsGathered t (suc x) new
gathered-more t x pending new small g open_ m on m_is q w r = record {
  heads_size = ap (λ (xs : List ℕ). length xs) r.heads ∙ length-set pending.heads m q.head ∙ g.heads_size;
  times_size = ap (λ (xs : List ℕ). length xs) r.times ∙ length-set pending.times m q.times ∙ g.times_size;
  tails_size = ap (λ (xs : List ℕ). length xs) r.tails ∙ length-set pending.tails m q.tail ∙ g.tails_size;
  each = each;
  few = few;
} where
  here : on_machine new m ≡ q
  here = replaced-same pending new m q (omega (arith, on, g.heads_size, small.few_machines))
      (omega (arith, on, g.times_size, small.few_machines))
      (omega (arith, on, g.tails_size, small.few_machines)) r

  each : (i : ℕ) → i < t.shop.machines → IsPendingOf t (those_below (suc x) (is_pending t i)) (on_machine new i)
  each i below = elim (cases_eq i m) [
    | inl same ↦
        let Q : ℕ → Type 0 = λ n. IsPendingOf t (those_below (suc x) (is_pending t n)) (on_machine new n) in
        let R : List ℕ → Type 0 = λ zs. IsPendingOf t zs (on_machine new m) in
        let P : OnMachine → Type 0 = λ p. IsPendingOf t (those_below x (is_pending t m) ++ x ∷ []) p in
        let yes_ : is_pending t m x ≡ true = and_from (not (is_placed t.shop (placed t) x)) (nat_eq (machine_of t.shop x) m && nat_lt 0 (time_of t.shop x)) (ap not open_)
        (and_from (nat_eq (machine_of t.shop x) m) (nat_lt 0 (time_of t.shop x)) (eq-eqb (machine_of t.shop x) m (sym m_is)) (lt-ltb 0 (time_of t.shop x) w.lasts)) in
        subst Q (sym same) (subst R (sym (those-yes x (is_pending t m) yes_)) (subst P (sym here) (with_step t x (on_machine pending m) q (those_below x (is_pending t m)) (g.each m on) w)))
    | inr other ↦
        let R : List ℕ → Type 0 = λ zs. IsPendingOf t zs (on_machine new i) in
        let P : OnMachine → Type 0 = λ p. IsPendingOf t (those_below x (is_pending t i)) p in
        let no_ : is_pending t i x ≡ false = and_right (not (is_placed t.shop (placed t) x)) (nat_eq (machine_of t.shop x) i && nat_lt 0 (time_of t.shop x))
        (and_left (nat_eq (machine_of t.shop x) i) (nat_lt 0 (time_of t.shop x)) (ne_eqb (machine_of t.shop x) i (λ e. other (sym e ∙ sym m_is)))) in
        subst R (sym (those-no x (is_pending t i) no_)) (subst P (sym (replaced-other pending new m i q other r)) (g.each i below))
  ]

  few : (i : ℕ) → i < t.shop.machines → slice_index new.times i ≤ suc x * 10000
  few i below = elim (cases_eq i m) [
    | inl same ↦ omega (arith, g.few m on, w.times, time-short t.shop small x, ap (λ (p : OnMachine). p.times) here, ap (λ n. slice_index new.times n) same)
    | inr other ↦ omega (arith, g.few i below, ap (λ (p : OnMachine). p.times) (replaced-other pending new m i q other r))
  ]

-- ---- bounds

pub pending-bound : (t : Standing) (zs : List ℕ) (p : OnMachine) → IsPendingOf t zs p → cond (nat_eq p.times 0) 0 (p.head + p.times + p.tail) ≡ bound_of_pending t.shop (placed t) zs
pending-bound t [] p is = cond-true (nat_eq p.times 0) 0 (p.head + p.times + p.tail) (eq-eqb p.times 0 is.0)
pending-bound t (x ∷ zs) p is =
    omega (arith, cond-false (nat_eq p.times 0) 0 (p.head + p.times + p.tail) (ne_eqb p.times 0 (λ e. omega (arith, e, is.0))), is.1, is.2, is.3)

-- ---- the step at an index of a job, as code reads it

pub record IsAt (t : Standing) (j i : ℕ) (step : Step) : Type 0 where
  pub machine : step.machine ≡ machine_of t.shop (j * t.shop.machines + i)
  pub time : step.time ≡ time_of t.shop (j * t.shop.machines + i)
  pub on : step.machine < t.shop.machines
  pub short : step.time ≤ 10000
  pub inside : j * t.shop.machines + i < count_steps t.shop
  pub few : count_steps t.shop ≤ 1000

at-here : (s : JobShop) (w : List ℕ) (j i : ℕ) (step : Step) → IsSmallShop s → j < s.jobs → i < s.machines → slice_get s.steps (j * s.machines + i) ≡ Some step → IsAt (standing s w) j i step
at-here s w j i step small job place here =
    let read : get_or s.steps (j * s.machines + i) idle ≡ step = step-is s (j * s.machines + i) step here in
    let inside : j * s.machines + i < count_steps s = number_below s small.shop j i job place in
    let most : s.jobs * s.machines ≤ 50 * 20 = mul-le-mul small.few_jobs small.few_machines in
    record {
      machine = sym (ap (λ (v : Step). v.machine) read);
      time = sym (ap (λ (v : Step). v.time) read);
      on = omega (arith, ap (λ (v : Step). v.machine) read, small.shop.on_machines (j * s.machines + i) idle inside);
      short = omega (arith, ap (λ (v : Step). v.time) read, time-short s small (j * s.machines + i));
      inside = inside;
      few = omega (arith, most, small.shop.all_steps);
    }

pub at-read : (s : JobShop) (w : List ℕ) (t : Standing) → standing s w ≡ t → IsSmallShop s →
    (j i m : ℕ) (step : Step) → j < t.shop.jobs → i < m → m ≡ s.machines →
    slice_get s.steps (j * m + i) ≡ Some step → IsAt t j i step
at-read s w t is small j i m step job place m_is here =
    let Q : Standing → Type 0 = λ v. IsAt v j i step in
    let R : ℕ → Type 0 = λ n. slice_get s.steps (j * n + i) ≡ Some step in
    subst Q is (at-here s w j i step small (omega (arith, job, ap (λ (v : Standing). v.shop.jobs) is)) (omega (arith, place, m_is)) (subst R m_is here))

-- a step from the next one of its job on isn't placed
pub at-open : (t : Standing) (j i : ℕ) → i < t.shop.machines → steps_done (placed t) j ≤ i → is_placed t.shop (placed t) (j * t.shop.machines + i) ≡ false
at-open t j i below since = le-ltb (place_of t.shop (j * t.shop.machines + i)) (steps_done (placed t) (job_of t.shop (j * t.shop.machines + i)))
    (omega (arith, since, place_at t.shop j i below, ap (λ k. steps_done (placed t) k) (job_at t.shop j i below)))

-- the head of that step
pub at-head : (t : Standing) (j i head end : ℕ) (step : Step) → IsAt t j i step → steps_done (placed t) j ≤ i → end ≡ end_at t.shop (placed t) j (i - steps_done (placed t) j)
    → head ≡ raised step.time end (machine_free t.shop (placed t) step.machine) → head ≡ head_at t.shop (placed t) j (i - steps_done (placed t) j)
at-head t j i head end step at since ended is =
    let k : ℕ = i - steps_done (placed t) j in
    let x : next_step t.shop (placed t) j + k ≡ j * t.shop.machines + i = omega (arith, since) in
    let time : step.time ≡ time_of t.shop (next_step t.shop (placed t) j + k) = at.time ∙ ap (time_of t.shop) (sym x) in
    let machine : step.machine ≡ machine_of t.shop (next_step t.shop (placed t) j + k) = at.machine ∙ ap (machine_of t.shop) (sym x) in
    is ∙ ap (λ n. raised n end (machine_free t.shop (placed t) step.machine)) time
    ∙ ap (λ n. raised (time_of t.shop (next_step t.shop (placed t) j + k)) n (machine_free t.shop (placed t) step.machine)) ended
    ∙ ap (λ n. raised (time_of t.shop (next_step t.shop (placed t) j + k)) (end_at t.shop (placed t) j k) (machine_free t.shop (placed t) n)) machine
    ∙ sym (head_at-is t.shop (placed t) j k)

-- the end after that step
pub at-end : (t : Standing) (j i head : ℕ) (step : Step) → IsAt t j i step → steps_done (placed t) j ≤ i → head ≡ head_at t.shop (placed t) j (i - steps_done (placed t) j)
    → head + step.time ≡ end_at t.shop (placed t) j (i + 1 - steps_done (placed t) j)
at-end t j i head step at since is =
    let k : ℕ = i - steps_done (placed t) j in
    let x : j * t.shop.machines + i ≡ next_step t.shop (placed t) j + k = omega (arith, since) in
    let n : suc k ≡ i + 1 - steps_done (placed t) j = omega (arith, since) in
    omega (arith, is, at.time, ap (time_of t.shop) x, ap (λ m. end_at t.shop (placed t) j m) n)

-- the bound of a job that has a next step
pub job_bound-next : (t : Standing) (j head time tail : ℕ) → has_next t.shop (placed t) j ≡ true →
    head ≡ ready t.shop (placed t) j → time ≡ time_of t.shop (next_step t.shop (placed t) j) →
    tail ≡ tail_of t.shop (next_step t.shop (placed t) j)
    → head + time + tail ≡ job_bound t.shop (placed t) j
job_bound-next t j head time tail next head_is time_is tail_is =
    let s : JobShop = t.shop in
    let xs : List Placed = placed t in
    let below : steps_done xs j < s.machines = ltb-true (steps_done xs j) s.machines next in
    let place : place_of s (next_step s xs j) ≡ steps_done xs j = place_at s j (steps_done xs j) below in
    let count : s.machines - steps_done xs j ≡ suc (s.machines - suc (place_of s (next_step s xs j))) = omega (arith, below, place) in
    let is : job_bound s xs j ≡ ready s xs j + times_from s (next_step s xs j)
    (s.machines - steps_done xs j) = cond-true (has_next s xs j)
    (ready s xs j + times_from s (next_step s xs j) (s.machines - steps_done xs j))
    (job_end s xs j) next in
    omega (arith, is, head_is, time_is, tail_is, ap (λ n. times_from s (next_step s xs j) n) count)

-- the bound of a machine, once all steps are gathered
pub machine_bound-is : (t : Standing) (ps : Pending) → IsShop t.shop → IsGathered t (t.shop.jobs * t.shop.machines) ps → (m b : ℕ) → m < t.shop.machines
    → b ≡ cond (nat_eq (on_machine ps m).times 0) 0 ((on_machine ps m).head + (on_machine ps m).times + (on_machine ps m).tail)
    → b ≡ bound_of_pending t.shop (placed t) (pending t.shop (placed t) m)
machine_bound-is t ps shop g m b below is =
    is ∙ pending-bound t (those_below (t.shop.jobs * t.shop.machines) (is_pending t m)) (on_machine ps m) (g.each m below)
    ∙ ap (λ n. bound_of_pending t.shop (placed t) (those_below n (is_pending t m))) (sym shop.all_steps)

-- the time left of a job that has a next step
pub time_left-next : (t : Standing) (j time tail : ℕ) → has_next t.shop (placed t) j ≡ true →
    time ≡ time_of t.shop (next_step t.shop (placed t) j) →
    tail ≡ tail_of t.shop (next_step t.shop (placed t) j) → time + tail ≡ time_left t.shop (placed t) j
time_left-next t j time tail next time_is tail_is =
    let s : JobShop = t.shop in
    let xs : List Placed = placed t in
    let below : steps_done xs j < s.machines = ltb-true (steps_done xs j) s.machines next in
    let place : place_of s (next_step s xs j) ≡ steps_done xs j = place_at s j (steps_done xs j) below in
    let count : s.machines - steps_done xs j ≡ suc (s.machines - suc (place_of s (next_step s xs j))) = omega (arith, below, place) in
    omega (arith, time_is, tail_is, ap (λ n. times_from s (next_step s xs j) n) count)
