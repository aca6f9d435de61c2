-- The bound of a word is at most the makespan of each feasible list that continues it.
use Rattle.std.proofs.Common.{◌≡◌, ℕ, zero, suc, ◌+◌, ◌-◌, ◌*◌, ◌≤◌, ◌<◌, max, Bool, true, not, ◌&&◌, nat_eq, nat_lt, inl, inr, List, [], ◌∷◌, ◌++◌, get_or, refl, sym, ◌∙◌, ap, subst, arith}
use Rattle.std.specs.List.{All, AllByRecursion, Contains, sum_by}
use Rattle.std.proofs.lemmas.Bool.{cases_lt, cases_eq, cond-true, cond-false, and_parts, and_from, eq-eqb, ne_eqb, eqb-true, ltb-true, ltb-false, lt-ltb, le-ltb, not-true}
use Rattle.std.proofs.lemmas.List.Elements.{recursion_from_All, All-contains}
use Rattle.plan_sgs.specs.Problem.{count, duration, makespan}
use Rattle.plan_sgs.proofs.TotalLemmas.{greatest_least, greatest_above}
use Rattle.plan_shop.specs.Shop.{JobShop, IsShop, count_steps, time_of, machine_of, job_of, place_of, times_from, problem_of}
use Rattle.plan_shop.specs.Words.{least_of, Placed, steps_done, job_end, machine_free, is_placed, has_next, next_step, raised, ready, starts_of, makespan_of, placed_by, Follows}
use Rattle.plan_shop.specs.Bound.{head_at, head_of, tail_of, pending, bound_of_pending, job_bound, bound_of}
use Rattle.plan_shop.specs.Continuation.{Continues}
use Rattle.plan_shop.specs.Laws.{placed_in, BoundIsLeast, ShopBoundHolds}
use Rattle.plan_shop.proofs.NumberLemmas.{passes_there, those_each, those_rise, in_order_from, InOrder, least_of_first, least_of_rest}
use Rattle.plan_shop.proofs.ShopBasics.{at, number_is, job_at, place_at, place_below, job_below, number_below, next_place, next_below, next_job, IsSound, duration_is, count_is, sound_from}
use Rattle.plan_shop.proofs.Reached.{Reached, done_le, end_within, continues_less, ready_le, reached_by}
use Rattle.plan_shop.proofs.FullWords.{reached, full_sound, full_continues}
use Rattle.plan_shop.proofs.Span.{IsClear, span}

-- each step ends by b
abbrev pub IsEnd : JobShop → (ℕ → ℕ) → ℕ → Type 0
IsEnd s starts b = (x : ℕ) → x < count_steps s → starts x + time_of s x ≤ b

-- each step ends by the makespan
pub end_in_makespan : (s : JobShop) (starts : List ℕ) (x : ℕ) → x < count_steps s → at starts x + time_of s x ≤ makespan (problem_of s) starts
end_in_makespan s starts x l =
    omega (arith, greatest_above (count (problem_of s)) (λ i. get_or starts i 0 + duration (problem_of s) i) x (omega (arith, l, count_is s)), duration_is s x)

-- so do the times of the rest of its job after its start
pub chain_end : (s : JobShop) → IsShop s → (starts : ℕ → ℕ) (b : ℕ) → IsSound s starts → IsEnd s starts b →
    (n x : ℕ) → x < count_steps s → place_of s x + suc n ≤ s.machines → starts x + times_from s x (suc n) ≤ b
chain_end s shop starts b sound end zero x l within = omega (arith, end x l)
chain_end s shop starts b sound end (suc n) x l within =
    let same : job_of s (suc x) ≡ job_of s x = next_job s x (omega (arith, within)) in
    let below : suc x < count_steps s = next_below s shop x l same in
    let rest : starts (suc x) + times_from s (suc x) (suc n) ≤ b = chain_end s shop starts b sound end n (suc x) below (omega (arith, next_place s x same, within)) in
    omega (arith, rest, sound.chain x below same)

-- no step is raised above what its end before and its machine allow
pub raised_within : (t h f b : ℕ) → h ≤ b → (0 < t → f ≤ b) → raised t h f ≤ b
raised_within t h f b early free = elim (cases_eq t 0) [
  | inl none ↦ omega (arith, early, cond-true (nat_eq t 0) h (max h f) (eq-eqb t 0 none))
  | inr some ↦ omega (arith, early, free (omega (arith, some)), cond-false (nat_eq t 0) h (max h f) (ne_eqb t 0 some))
]

-- the head of each step after the next one of a job is at most its start
head_at_le : (s : JobShop) → IsShop s → (starts : ℕ → ℕ) (xs : List Placed) → Reached s xs →
    IsSound s starts → Continues s starts xs → (j k : ℕ) → j < s.jobs → steps_done xs j + k < s.machines →
    head_at s xs j k ≤ starts (next_step s xs j + k)
head_at_le s shop starts xs r sound con j zero l within =
    let same : next_step s xs j + 0 ≡ next_step s xs j = omega arith in
    omega (arith, ready_le s shop starts xs r sound con j l (omega (arith, within)), ap starts same)
head_at_le s shop starts xs r sound con j (suc k) l within =
    raised_within (time_of s x) (head_at s xs j k + time_of s (next_step s xs j + k))
    (machine_free s xs (machine_of s x)) (starts x)
    (before (head_at_le s shop starts xs r sound con j k l (omega (arith, within)))) free where
      x : ℕ
      x = next_step s xs j + suc k

      is : x ≡ j * s.machines + (steps_done xs j + suc k)
      is = omega arith

      job : job_of s x ≡ j
      job = ap (job_of s) is ∙ job_at s j (steps_done xs j + suc k) within

      place : place_of s x ≡ steps_done xs j + suc k
      place = ap (place_of s) is ∙ place_at s j (steps_done xs j + suc k) within

      below : x < count_steps s
      below = omega (arith, is, number_below s shop j (steps_done xs j + suc k) l within)

      before : head_at s xs j k ≤ starts (next_step s xs j + k) → head_at s xs j k + time_of s (next_step s xs j + k) ≤ starts x
      before early =
          let y = next_step s xs j + k in
          let after : suc y ≡ x = omega arith in
          let was : y ≡ j * s.machines + (steps_done xs j + k) = omega arith in
          let same : job_of s (suc y) ≡ job_of s y = ap (job_of s) after ∙ job ∙ sym (ap (job_of s) was ∙ job_at s j (steps_done xs j + k) (omega (arith, within))) in
          omega (arith, early, sound.chain y (omega (arith, after, below)) same, ap starts after)

      free : 0 < time_of s x → machine_free s xs (machine_of s x) ≤ starts x
      free t = con.unplaced x below (omega (arith, place, ap (steps_done xs) job)) t

-- so is the head of each unplaced step
pub head_le : (s : JobShop) → IsShop s → (starts : ℕ → ℕ) (xs : List Placed) → Reached s xs →
    IsSound s starts → Continues s starts xs → (x : ℕ) → x < count_steps s →
    steps_done xs (job_of s x) ≤ place_of s x → head_of s xs x ≤ starts x
head_le s shop starts xs r sound con x l unplaced =
    let j = job_of s x in
    let k = place_of s x - steps_done xs j in
    let there : next_step s xs j + k ≡ x = omega (arith, number_is s x, unplaced) in
    omega (arith, head_at_le s shop starts xs r sound con j k (job_below s shop x l) (omega (arith, unplaced, place_below s shop x)), ap starts there)

-- after its start come its time and its tail, by the end
tail_le : (s : JobShop) → IsShop s → (starts : ℕ → ℕ) (b : ℕ) → IsSound s starts → IsEnd s starts b → (x : ℕ) → x < count_steps s → starts x + time_of s x + tail_of s x ≤ b
tail_le s shop starts b sound end x l = omega (arith, chain_end s shop starts b sound end (s.machines - suc (place_of s x)) x l (omega (arith, place_below s shop x)))

-- the times of a job's unplaced steps
job_bound_le : (s : JobShop) → IsShop s → (starts : ℕ → ℕ) (b : ℕ) (xs : List Placed) → Reached s xs →
    IsSound s starts → Continues s starts xs → IsEnd s starts b → (j : ℕ) → j < s.jobs → job_bound s xs j ≤ b
job_bound_le s shop starts b xs r sound con end j l = elim (cases_lt (steps_done xs j) s.machines) [
  | inl next ↦
      let n = s.machines - suc (steps_done xs j) in
      let x = next_step s xs j in
      let is : s.machines - steps_done xs j ≡ suc n = omega (arith, next) in
      let rest : starts x + times_from s x (suc n) ≤ b =
      chain_end s shop starts b sound end n x (number_below s shop j (steps_done xs j) l next)
      (omega (arith, place_at s j (steps_done xs j) next, next)) in
      omega (
        arith,
        rest,
        ap (times_from s x) is,
        ready_le s shop starts xs r sound con j l next,
        cond-true
            (has_next s xs j) (ready s xs j + times_from s x (s.machines - steps_done xs j)) (job_end s xs j)
            (lt-ltb (steps_done xs j) s.machines next),
      )
  | inr all ↦
      let ended : job_end s xs j ≤ b = end_within s starts xs r con.placed j b (λ k e. end (j * s.machines + k) (number_below s shop j k l (omega (arith, e, done_le s xs r j)))) in
      omega (arith, ended, cond-false (has_next s xs j) (ready s xs j + times_from s (next_step s xs j) (s.machines - steps_done xs j)) (job_end s xs j) (le-ltb (steps_done xs j) s.machines all))
]

-- an unplaced step of positive time on a machine
pub record IsPending (s : JobShop) (xs : List Placed) (m x : ℕ) : Type 0 where
  pub below : x < count_steps s
  pub unplaced : steps_done xs (job_of s x) ≤ place_of s x
  pub machine : machine_of s x ≡ m
  pub positive : 0 < time_of s x

-- the test for it
abbrev is_pending : JobShop → List Placed → ℕ → ℕ → Bool
is_pending s xs m x = not (is_placed s xs x) && (nat_eq (machine_of s x) m && nat_lt 0 (time_of s x))

pub pending_are : (s : JobShop) (xs : List Placed) (m : ℕ) → All (IsPending s xs m) (pending s xs m)
pending_are s xs m = those_each (count_steps s) (is_pending s xs m) (IsPending s xs m) each where
  each : (x : ℕ) → x < count_steps s → is_pending s xs m x ≡ true → IsPending s xs m x
  each x l e =
      let u = and_parts (not (is_placed s xs x)) (nat_eq (machine_of s x) m && nat_lt 0 (time_of s x)) e in
      let v = and_parts (nat_eq (machine_of s x) m) (nat_lt 0 (time_of s x)) u.1 in
      record {
        below = l;
        unplaced = ltb-false (place_of s x) (steps_done xs (job_of s x)) (not-true (is_placed s xs x) u.0);
        machine = eqb-true (machine_of s x) m v.0;
        positive = ltb-true 0 (time_of s x) v.1;
      }

pub pending_is : (s : JobShop) (xs : List Placed) (m x : ℕ) → Contains (pending s xs m) x → IsPending s xs m x
pending_is s xs m x c = All-contains (IsPending s xs m) (pending s xs m) x (pending_are s xs m) c

pub pending_there : (s : JobShop) (xs : List Placed) (m x : ℕ) → IsPending s xs m x → Contains (pending s xs m) x
pending_there s xs m x p =
    let open_ : not (is_placed s xs x) ≡ true = ap not (le-ltb (place_of s x) (steps_done xs (job_of s x)) p.unplaced) in
    let here : (nat_eq (machine_of s x) m && nat_lt 0 (time_of s x)) ≡ true =
    and_from (nat_eq (machine_of s x) m) (nat_lt 0 (time_of s x)) (eq-eqb (machine_of s x) m p.machine)
    (lt-ltb 0 (time_of s x) p.positive) in
    passes_there (count_steps s) (is_pending s xs m) x p.below (and_from (not (is_placed s xs x)) (nat_eq (machine_of s x) m && nat_lt 0 (time_of s x)) open_ here)

pending_clear : (s : JobShop) (starts : ℕ → ℕ) (xs : List Placed) (m : ℕ) → IsSound s starts → InOrder (IsClear starts (time_of s)) (pending s xs m)
pending_clear s starts xs m sound =
    in_order_from (IsClear starts (time_of s)) (IsPending s xs m)
    (λ x y px py l. sound.apart x y l py.below (px.machine ∙ sym py.machine) px.positive py.positive)
    (pending s xs m) (those_rise (count_steps s) _) (pending_are s xs m)

each_weaker : (P Q : ℕ → Type 0) → ((x : ℕ) → P x → Q x) → (zs : List ℕ) → AllByRecursion P zs → AllByRecursion Q zs
each_weaker P Q f [] a = tt
each_weaker P Q f (z ∷ zs) a = (f z a.0, each_weaker P Q f zs a.1)

each_both : (P Q : ℕ → Type 0) (zs : List ℕ) → AllByRecursion P zs → AllByRecursion Q zs → AllByRecursion (λ z. P z × Q z) zs
each_both P Q [] a b = tt
each_both P Q (z ∷ zs) a b = ((a.0, b.0), each_both P Q zs a.1 b.1)

-- the least head, all times and the least tail of steps that are clear of each other
pending_le : (s : JobShop) (starts : ℕ → ℕ) (b : ℕ) (xs : List Placed) (zs : List ℕ) →
    InOrder (IsClear starts (time_of s)) zs → AllByRecursion (λ z. head_of s xs z ≤ starts z) zs →
    AllByRecursion (λ z. starts z + time_of s z + tail_of s z ≤ b) zs → bound_of_pending s xs zs ≤ b
pending_le s starts b xs [] clear heads tails = omega arith
pending_le s starts b xs (x ∷ zs) clear heads tails =
    let h = least_of (head_of s xs) x zs in
    let q = least_of (tail_of s) x zs in
    let first : h ≤ head_of s xs x = least_of_first (head_of s xs) x zs in
    let last : q ≤ tail_of s x = least_of_first (tail_of s) x zs in
    let late : AllByRecursion (λ z. h ≤ starts z) (x ∷ zs) = (
      omega (arith, first, heads.0),
      each_weaker (λ z. (h ≤ head_of s xs z) × (head_of s xs z ≤ starts z))
          (λ z. h ≤ starts z) (λ z p. omega (arith, p.0, p.1)) zs
          (each_both (λ z. h ≤ head_of s xs z) (λ z. head_of s xs z ≤ starts z) zs
          (least_of_rest (head_of s xs) x zs) heads.1),
    ) in
    let early : AllByRecursion (λ z. starts z + time_of s z ≤ b - q) (x ∷ zs) = (
      omega (arith, last, tails.0),
      each_weaker
          (λ z. (q ≤ tail_of s z) × (starts z + time_of s z + tail_of s z ≤ b))
          (λ z. starts z + time_of s z ≤ b - q) (λ z p. omega (arith, p.0, p.1)) zs
          (each_both (λ z. q ≤ tail_of s z) (λ z. starts z + time_of s z + tail_of s z ≤ b) zs
          (least_of_rest (tail_of s) x zs) tails.1),
    ) in
    let room : h + sum_by (time_of s) (x ∷ zs) ≤ b - q = span starts (time_of s) h (b - q) (x ∷ zs) (omega (arith, first, heads.0, last, tails.0)) clear late early in
    omega (arith, room, last, tails.0)

machine_bound_le : (s : JobShop) → IsShop s → (starts : ℕ → ℕ) (b : ℕ) (xs : List Placed) → Reached s xs →
    IsSound s starts → Continues s starts xs → IsEnd s starts b → (m : ℕ) →
    bound_of_pending s xs (pending s xs m) ≤ b
machine_bound_le s shop starts b xs r sound con end m =
    let are = recursion_from_All (IsPending s xs m) (pending s xs m) (pending_are s xs m) in
    pending_le s starts b xs (pending s xs m) (pending_clear s starts xs m sound)
    (each_weaker (IsPending s xs m) (λ z. head_of s xs z ≤ starts z) (λ z p. head_le s shop starts xs r sound con z p.below p.unplaced) (pending s xs m) are)
    (each_weaker (IsPending s xs m) (λ z. starts z + time_of s z + tail_of s z ≤ b) (λ z p. tail_le s shop starts b sound end z p.below) (pending s xs m) are)

-- the bound is at most every end of all steps
pub bound_le : (s : JobShop) → IsShop s → (starts : ℕ → ℕ) (b : ℕ) (xs : List Placed) → Reached s xs → IsSound s starts → Continues s starts xs → IsEnd s starts b → bound_of s xs ≤ b
unfolding bound_of
bound_le s shop starts b xs r sound con end =
    omega (
      arith,
      greatest_least s.jobs (job_bound s xs) b
          (λ j l. job_bound_le s shop starts b xs r sound con end j l),
      greatest_least s.machines
          (λ m. bound_of_pending s xs (pending s xs m)) b
          (λ m l. machine_bound_le s shop starts b xs r sound con end m),
    )

-- the bound of a word is at most the makespan of every feasible list that continues it
pub bound_is_least : (s : JobShop) → IsShop s → BoundIsLeast s
unfolding BoundIsLeast
bound_is_least s shop w starts is c =
    bound_le s shop (at starts) (makespan (problem_of s) starts) (placed_in s w) (reached s w is) (sound_from s shop starts c.feasible) c.continues (end_in_makespan s starts)

-- a schedule that continues a word continues what the word begins with
pub continues_prefix : (s : JobShop) (starts : ℕ → ℕ) (xs : List Placed) (v : List ℕ) → Reached s xs → Follows s xs v → Continues s starts (placed_by s xs v) → Continues s starts xs
continues_prefix s starts xs [] r f con = con
continues_prefix s starts xs (a ∷ v) r f con =
    let r' = reached_by s xs (a ∷ []) r (f.0, tt) in
    continues_less s starts _ xs r' (continues_prefix s starts (placed_by s xs (a ∷ [])) v r' f.1 con)

-- two words one after the other
pub placed_append : (s : JobShop) (xs : List Placed) (u v : List ℕ) → placed_by s xs (u ++ v) ≡ placed_by s (placed_by s xs u) v
placed_append s xs [] v = refl
placed_append s xs (a ∷ u) v = placed_append s (placed_by s xs (a ∷ [])) u v

pub follows_append : (s : JobShop) (xs : List Placed) (u v : List ℕ) → Follows s xs (u ++ v) → Follows s xs u × Follows s (placed_by s xs u) v
follows_append s xs [] v f = (tt, f)
follows_append s xs (a ∷ u) v f =
    let rest = follows_append s (placed_by s xs (a ∷ [])) u v f.1 in
    ((f.0, rest.0), rest.1)

-- the bound of a word is at most the makespan of every full word that begins with it
pub shop_bound_holds : (s : JobShop) → IsShop s → ShopBoundHolds s
unfolding ShopBoundHolds makespan_of
shop_bound_holds s shop u v is full =
    let xs = placed_in s (u ++ v) in
    let f = follows_append s [] u v is in
    let r : Reached s xs = reached s (u ++ v) is in
    let con : Continues s (at (starts_of s xs)) xs = full_continues s shop xs r full in
    let con' : Continues s (at (starts_of s xs)) (placed_by s (placed_in s u) v) = subst (λ (zs : List Placed). Continues s (at (starts_of s xs)) zs) (placed_append s [] u v) con in
    let con'' : Continues s (at (starts_of s xs)) (placed_in s u) = continues_prefix s (at (starts_of s xs)) (placed_in s u) v (reached s u f.0) f.1 con' in
    bound_le s shop (at (starts_of s xs)) (makespan (problem_of s) (starts_of s xs)) (placed_in s u) (reached s u f.0) (full_sound s shop xs r full) con'' (end_in_makespan s (starts_of s xs))
