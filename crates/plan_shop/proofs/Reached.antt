-- The steps that a word places, one by one: the jobs that may follow, the starts, and schedules
-- that continue it.
use Rattle.std.proofs.Common.{◌≡◌, ◌≢◌, ℕ, zero, suc, ◌+◌, ◌*◌, ◌≤◌, ◌<◌, max, Bool, true, false, not, ◌&&◌, nat_eq, nat_lt, ◌⊎◌, inl, inr, List, [], ◌∷◌, length, get_or, map, refl, sym, ◌∙◌, ap, subst, arith}
use Rattle.std.specs.List.{Contains}
use Rattle.std.proofs.lemmas.Bool.{cases_lt, cases_eq, cond-true, cond-false, and_parts, and_from, and_left, and_right, eq-eqb, ne_eqb, eqb-true, lt-ltb, le-ltb, ltb-true, not-false}
use Rattle.std.proofs.lemmas.List.{get_or-map, length-map}
use Rattle.plan_sgs.proofs.TotalLemmas.{all_below_at, all_below_not}
use Rattle.plan_shop.specs.Shop.{JobShop, IsShop, count_steps, time_of, machine_of, job_of, place_of, times_from}
use Rattle.plan_shop.specs.Words.{first_least, Placed, steps_done, job_end, machine_free, has_next, next_step, ready, next_end, place, letter_of, job_of_letter, placed_by, with_next, with_zero, rivals, rivals_of_first, jobs_by, jobs_after, Follows, is_full}
use Rattle.plan_shop.specs.Continuation.{Agrees, Continues}
use Rattle.plan_shop.proofs.NumberLemmas.{there_passes, passes_there, first_least_in, first_least_below}
use Rattle.plan_shop.proofs.ShopBasics.{number_is, job_at, place_at, number_below, next_place, next_below, next_job, IsSound}

-- the steps that a word places: each is the next one of a job that may follow, at its head
abbrev pub Reached : JobShop → List Placed → Type 0
Reached s [] = Unit {0}
Reached s (p ∷ xs) = Reached s xs × Contains (jobs_after s xs) p.job × (p.step ≡ next_step s xs p.job) × (p.start ≡ ready s xs p.job)

-- a job that competes for the machine of the first end
pub record IsRival (s : JobShop) (xs : List Placed) (j : ℕ) : Type 0 where
  pub positive : (k : ℕ) → k < s.jobs → steps_done xs k < s.machines → 0 < time_of s (next_step s xs k)
  pub first : ℕ
  pub first_job : first < s.jobs
  pub first_next : steps_done xs first < s.machines
  pub machine : machine_of s (next_step s xs j) ≡ machine_of s (next_step s xs first)
  pub sooner : ready s xs j < next_end s xs first
  pub least : (k : ℕ) → k < s.jobs → steps_done xs k < s.machines → next_end s xs first ≤ next_end s xs k

-- a job that may follow
pub record MayFollow (s : JobShop) (xs : List Placed) (j : ℕ) : Type 0 where
  pub job : j < s.jobs
  pub next : steps_done xs j < s.machines
  pub choice : (time_of s (next_step s xs j) ≡ 0) ⊎ IsRival s xs j

-- a job that may follow because its next step has time 0
pub record IsZero (s : JobShop) (xs : List Placed) (j : ℕ) : Type 0 where
  pub there : Contains (jobs_after s xs) j
  pub job : j < s.jobs
  pub next : steps_done xs j < s.machines
  pub none : time_of s (next_step s xs j) ≡ 0

-- a job of the first end, if all next steps have positive times
pub record IsSoonest (s : JobShop) (xs : List Placed) (b : ℕ) : Type 0 where
  pub positive : (k : ℕ) → k < s.jobs → steps_done xs k < s.machines → 0 < time_of s (next_step s xs k)
  pub job : b < s.jobs
  pub next : steps_done xs b < s.machines
  pub least : (k : ℕ) → k < s.jobs → steps_done xs k < s.machines → next_end s xs b ≤ next_end s xs k
  pub rivals : (k : ℕ) → k < s.jobs → steps_done xs k < s.machines → machine_of s (next_step s xs k) ≡ machine_of s (next_step s xs b) → ready s xs k < next_end s xs b → Contains (jobs_after s xs) k

-- letters and their jobs
pub job_there : (js : List ℕ) (a : ℕ) → Contains (map letter_of js) a → Contains js (job_of_letter a)
job_there js a (k, l, e) =
    let inside : k < length js = omega (arith, l, length-map js letter_of) in
    let is : get_or (map letter_of js) k a ≡ letter_of (get_or js k (job_of_letter a)) = get_or-map letter_of js k (job_of_letter a) a inside in
    (k, inside, ap job_of_letter (sym is ∙ e))

pub letter_there : (js : List ℕ) (j : ℕ) → Contains js j → Contains (map letter_of js) (letter_of j)
letter_there js j (k, l, e) = (k, omega (arith, l, length-map js letter_of), get_or-map letter_of js k j (letter_of j) l ∙ ap letter_of e)

-- the steps that are placed after a word that follows
pub reached_by : (s : JobShop) (xs : List Placed) (w : List ℕ) → Reached s xs → Follows s xs w → Reached s (placed_by s xs w)
reached_by s xs [] r f = r
reached_by s xs (a ∷ w) r f = reached_by s (place s xs (job_of_letter a)) w (r, job_there (jobs_after s xs) a f.0, refl, refl) f.1

-- tests of a job's next step
abbrev pub is_zero : JobShop → List Placed → ℕ → Bool
is_zero s xs j = has_next s xs j && nat_eq (time_of s (next_step s xs j)) 0

abbrev pub is_rival : JobShop → List Placed → ℕ → ℕ → Bool
is_rival s xs b j = has_next s xs j && (nat_eq (machine_of s (next_step s xs j)) (machine_of s (next_step s xs b)) && nat_lt (ready s xs j) (next_end s xs b))

pub next_from : (s : JobShop) (xs : List Placed) (j : ℕ) → has_next s xs j ≡ true → steps_done xs j < s.machines
next_from s xs j e = ltb-true (steps_done xs j) s.machines e

pub has_next_from : (s : JobShop) (xs : List Placed) (j : ℕ) → steps_done xs j < s.machines → has_next s xs j ≡ true
has_next_from s xs j l = lt-ltb (steps_done xs j) s.machines l

pub nil_has_none : (xs : List ℕ) (x : ℕ) → xs ≡ [] → Contains xs x → ⊥
nil_has_none xs x e (k, l, i) = omega (arith, l, ap length e)

-- if no next step has time 0, all have positive times
pub all_positive : (s : JobShop) (xs : List Placed) → with_zero s xs ≡ [] → (k : ℕ) → k < s.jobs → steps_done xs k < s.machines → 0 < time_of s (next_step s xs k)
all_positive s xs none k l next = elim (cases_eq (time_of s (next_step s xs k)) 0) [
  | inr some ↦ omega (arith, some)
  | inl zero_time ↦
      absurd (nil_has_none (with_zero s xs) k none
      (passes_there s.jobs (is_zero s xs) k l (and_from (has_next s xs k)
      (nat_eq (time_of s (next_step s xs k)) 0) (has_next_from s xs k next)
      (eq-eqb (time_of s (next_step s xs k)) 0 zero_time))))
]

-- the first of those with a next step that has the least end
abbrev pub soonest : JobShop → List Placed → ℕ → List ℕ → ℕ
soonest s xs n ns = first_least (next_end s xs) n ns

pub soonest_there : (s : JobShop) (xs : List Placed) (n : ℕ) (ns : List ℕ) → with_next s xs ≡ n ∷ ns → (soonest s xs n ns < s.jobs) × (steps_done xs (soonest s xs n ns) < s.machines)
soonest_there s xs n ns are =
    let there : Contains (with_next s xs) (soonest s xs n ns) = subst (λ (ks : List ℕ). Contains ks (soonest s xs n ns)) (sym are) (first_least_in (next_end s xs) n ns) in
    let t = there_passes s.jobs (has_next s xs) (soonest s xs n ns) there in
    (t.0, next_from s xs (soonest s xs n ns) t.1)

pub soonest_least : (s : JobShop) (xs : List Placed) (n : ℕ) (ns : List ℕ) → with_next s xs ≡ n ∷ ns →
    (k : ℕ) → k < s.jobs → steps_done xs k < s.machines → next_end s xs (soonest s xs n ns) ≤ next_end s xs k
soonest_least s xs n ns are k l next =
    let there : Contains (with_next s xs) k = passes_there s.jobs (has_next s xs) k l (has_next_from s xs k next) in
    first_least_below (next_end s xs) n ns k (subst (λ (ks : List ℕ). Contains ks k) are there)

pub zero_passes : (s : JobShop) (xs : List Placed) (j : ℕ) → Contains (with_zero s xs) j → (j < s.jobs) × (steps_done xs j < s.machines) × (time_of s (next_step s xs j) ≡ 0)
zero_passes s xs j c =
    let t = there_passes s.jobs (is_zero s xs) j c in
    let b = and_parts (has_next s xs j) (nat_eq (time_of s (next_step s xs j)) 0) t.1 in
    (t.0, next_from s xs j b.0, eqb-true (time_of s (next_step s xs j)) 0 b.1)

follow_by : (s : JobShop) (xs : List Placed) (j : ℕ) (zs ns : List ℕ) → with_zero s xs ≡ zs → with_next s xs ≡ ns → Contains (jobs_by s xs zs) j → MayFollow s xs j
follow_by s xs j (z ∷ zs) ns none are (zero, l, e) =
    let head : Contains (with_zero s xs) z = subst (λ (ks : List ℕ). Contains ks z) (sym none) (0, omega arith, refl) in
    let t = zero_passes s xs j (subst (λ (i : ℕ). Contains (with_zero s xs) i) e head) in
    record { job = t.0; next = t.1; choice = inl t.2 }
follow_by s xs j (z ∷ zs) ns none are (suc k, l, e) = absurd (omega (arith, l))
follow_by s xs j [] [] none are c = absurd (nil_has_none (rivals_of_first s xs (with_next s xs)) j (ap (rivals_of_first s xs) are) c)
follow_by s xs j [] (n ∷ ns) none are c =
    let b = soonest s xs n ns in
    let c' : Contains (rivals s xs b) j = subst (λ (ks : List ℕ). Contains (rivals_of_first s xs ks) j) are c in
    let t = there_passes s.jobs (is_rival s xs b) j c' in
    let u = and_parts (has_next s xs j) (nat_eq (machine_of s (next_step s xs j)) (machine_of s (next_step s xs b)) && nat_lt (ready s xs j) (next_end s xs b)) t.1 in
    let v = and_parts (nat_eq (machine_of s (next_step s xs j)) (machine_of s (next_step s xs b))) (nat_lt (ready s xs j) (next_end s xs b)) u.1 in
    let f = soonest_there s xs n ns are in
    record {
      job = t.0;
      next = next_from s xs j u.0;
      choice = inr (record {
        positive = all_positive s xs none;
        first = b;
        first_job = f.0;
        first_next = f.1;
        machine = eqb-true (machine_of s (next_step s xs j)) (machine_of s (next_step s xs b)) v.0;
        sooner = ltb-true (ready s xs j) (next_end s xs b) v.1;
        least = soonest_least s xs n ns are;
      });
    }

-- a job that may follow has a next step: of time 0, or one that competes for the machine of the
-- first end
pub may_follow : (s : JobShop) (xs : List Placed) (j : ℕ) → Contains (jobs_after s xs) j → MayFollow s xs j
unfolding jobs_after
may_follow s xs j c = follow_by s xs j (with_zero s xs) (with_next s xs) refl refl c

pub jobs_by_zero : (s : JobShop) (xs : List Placed) (z : ℕ) (zs : List ℕ) → with_zero s xs ≡ z ∷ zs → jobs_after s xs ≡ z ∷ []
unfolding jobs_after
jobs_by_zero s xs z zs e = ap (jobs_by s xs) e

pub jobs_by_rivals : (s : JobShop) (xs : List Placed) (n : ℕ) (ns : List ℕ) → with_zero s xs ≡ [] → with_next s xs ≡ n ∷ ns → jobs_after s xs ≡ rivals s xs (soonest s xs n ns)
unfolding jobs_after
jobs_by_rivals s xs n ns none are = ap (jobs_by s xs) none ∙ ap (rivals_of_first s xs) are

choice_by : (s : JobShop) (xs : List Placed) (zs ns : List ℕ) → with_zero s xs ≡ zs → with_next s xs ≡ ns → (i : ℕ) → Contains (with_next s xs) i → (j : ℕ) × (IsZero s xs j ⊎ IsSoonest s xs j)
choice_by s xs (z ∷ zs) ns none are i c =
    let t = zero_passes s xs z (subst (λ (ks : List ℕ). Contains ks z) (sym none) (0, omega arith, refl)) in
    (z, inl (record { there = subst (λ (ks : List ℕ). Contains ks z) (sym (jobs_by_zero s xs z zs none)) (0, omega arith, refl); job = t.0; next = t.1; none = t.2 }))
choice_by s xs [] [] none are i c = absurd (nil_has_none (with_next s xs) i are c)
choice_by s xs [] (n ∷ ns) none are i c =
    let b = soonest s xs n ns in
    let f = soonest_there s xs n ns are in (
      b,
      inr (record {
        positive = all_positive s xs none;
        job = f.0;
        next = f.1;
        least = soonest_least s xs n ns are;
        rivals = λ k l next same sooner.
            let test : is_rival s xs b k ≡ true = and_from (has_next s xs k)
            (nat_eq (machine_of s (next_step s xs k)) (machine_of s (next_step s xs b))
            && nat_lt (ready s xs k) (next_end s xs b)) (has_next_from s xs k next)
            (and_from (nat_eq (machine_of s (next_step s xs k)) (machine_of s (next_step s xs b)))
            (nat_lt (ready s xs k) (next_end s xs b))
            (eq-eqb (machine_of s (next_step s xs k)) (machine_of s (next_step s xs b)) same)
            (lt-ltb (ready s xs k) (next_end s xs b) sooner)) in
            subst (λ (ks : List ℕ). Contains ks k) (sym (jobs_by_rivals s xs n ns none are)) (passes_there s.jobs (is_rival s xs b) k l test);
      }),
    )

-- if not all steps are placed, some job has a next step
pub some_next : (s : JobShop) (xs : List Placed) → is_full s xs ≡ false → (i : ℕ) × (i < s.jobs) × (steps_done xs i < s.machines)
some_next s xs e =
    let f = all_below_not s.jobs (λ j. not (has_next s xs j)) e in
    (f.0, f.1, next_from s xs f.0 (not-false (has_next s xs f.0) f.2))

pub full_done : (s : JobShop) (xs : List Placed) → is_full s xs ≡ true → (j : ℕ) → j < s.jobs → s.machines ≤ steps_done xs j
full_done s xs full j l = elim (cases_lt (steps_done xs j) s.machines) [
  | inr all ↦ all
  | inl some ↦ absurd (false≢true' (sym (ap not (has_next_from s xs j some)) ∙ all_below_at s.jobs (λ j. not (has_next s xs j)) j full l))
] where
  false≢true' : false ≡ true → ⊥
  false≢true' e = cc

-- and one of time 0 follows, or there is one of the first end
pub choice : (s : JobShop) (xs : List Placed) → is_full s xs ≡ false → (j : ℕ) × (IsZero s xs j ⊎ IsSoonest s xs j)
choice s xs e =
    let n = some_next s xs e in
    choice_by s xs (with_zero s xs) (with_next s xs) refl refl n.0 (passes_there s.jobs (has_next s xs) n.0 n.1 (has_next_from s xs n.0 n.2))

-- how counts, ends and machines change with one more step
pub done_same : (p : Placed) (xs : List Placed) (j : ℕ) → p.job ≡ j → steps_done (p ∷ xs) j ≡ suc (steps_done xs j)
done_same p xs j e = cond-true (nat_eq p.job j) (suc (steps_done xs j)) (steps_done xs j) (eq-eqb p.job j e)

pub done_other : (p : Placed) (xs : List Placed) (j : ℕ) → (p.job ≡ j → ⊥) → steps_done (p ∷ xs) j ≡ steps_done xs j
done_other p xs j e = cond-false (nat_eq p.job j) (suc (steps_done xs j)) (steps_done xs j) (ne_eqb p.job j e)

pub done_more : (p : Placed) (xs : List Placed) (j : ℕ) → steps_done xs j ≤ steps_done (p ∷ xs) j
done_more p xs j = elim (cases_eq p.job j) [
  | inl same ↦ omega (arith, done_same p xs j same)
  | inr other ↦ omega (arith, done_other p xs j other)
]

pub end_same : (s : JobShop) (p : Placed) (xs : List Placed) (j : ℕ) → p.job ≡ j → job_end s (p ∷ xs) j ≡ p.start + time_of s p.step
end_same s p xs j e = cond-true (nat_eq p.job j) (p.start + time_of s p.step) (job_end s xs j) (eq-eqb p.job j e)

pub end_other : (s : JobShop) (p : Placed) (xs : List Placed) (j : ℕ) → (p.job ≡ j → ⊥) → job_end s (p ∷ xs) j ≡ job_end s xs j
end_other s p xs j e = cond-false (nat_eq p.job j) (p.start + time_of s p.step) (job_end s xs j) (ne_eqb p.job j e)

abbrev uses : JobShop → Placed → ℕ → Bool
uses s p m = nat_eq (machine_of s p.step) m && nat_lt 0 (time_of s p.step)

pub free_new : (s : JobShop) (p : Placed) (xs : List Placed) (m : ℕ) → machine_of s p.step ≡ m →
    0 < time_of s p.step → machine_free s (p ∷ xs) m ≡ max (p.start + time_of s p.step) (machine_free s xs m)
free_new s p xs m e t =
    cond-true (uses s p m) (max (p.start + time_of s p.step) (machine_free s xs m)) (machine_free s xs m)
    (and_from (nat_eq (machine_of s p.step) m) (nat_lt 0 (time_of s p.step))
    (eq-eqb (machine_of s p.step) m e) (lt-ltb 0 (time_of s p.step) t))

pub free_other : (s : JobShop) (p : Placed) (xs : List Placed) (m : ℕ) → (machine_of s p.step ≡ m → ⊥) → machine_free s (p ∷ xs) m ≡ machine_free s xs m
free_other s p xs m e =
    cond-false (uses s p m) (max (p.start + time_of s p.step) (machine_free s xs m)) (machine_free s xs m)
    (and_left (nat_eq (machine_of s p.step) m) (nat_lt 0 (time_of s p.step))
    (ne_eqb (machine_of s p.step) m e))

pub free_zero : (s : JobShop) (p : Placed) (xs : List Placed) (m : ℕ) → time_of s p.step ≡ 0 → machine_free s (p ∷ xs) m ≡ machine_free s xs m
free_zero s p xs m e =
    cond-false (uses s p m) (max (p.start + time_of s p.step) (machine_free s xs m)) (machine_free s xs m)
    (and_right (nat_eq (machine_of s p.step) m) (nat_lt 0 (time_of s p.step))
    (le-ltb 0 (time_of s p.step) (omega (arith, e))))

-- one more step uses the machine, or doesn't
pub free_cases : (s : JobShop) (p : Placed) (xs : List Placed) (m : ℕ) →
    ((machine_of s p.step ≡ m) × (0 < time_of s p.step)
    × (machine_free s (p ∷ xs) m ≡ max (p.start + time_of s p.step) (machine_free s xs m)))
    ⊎ (machine_free s (p ∷ xs) m ≡ machine_free s xs m)
free_cases s p xs m = elim (cases_eq (machine_of s p.step) m) [
  | inr other ↦ inr (free_other s p xs m other)
  | inl same ↦ elim (cases_lt 0 (time_of s p.step)) [
    | inl some ↦ inl (same, some, free_new s p xs m same some)
    | inr none ↦ inr (free_zero s p xs m (omega (arith, none)))
  ]
]

pub free_more : (s : JobShop) (p : Placed) (xs : List Placed) (m : ℕ) → machine_free s xs m ≤ machine_free s (p ∷ xs) m
free_more s p xs m = elim (free_cases s p xs m) [
  | inl (same, some, is) ↦ omega (arith, is)
  | inr is ↦ omega (arith, is)
]

-- the head of a next step
pub ready_end : (s : JobShop) (xs : List Placed) (j : ℕ) → job_end s xs j ≤ ready s xs j
unfolding ready
ready_end s xs j = elim (cases_eq (time_of s (next_step s xs j)) 0) [
  | inl none ↦
      omega (
        arith,
        cond-true (nat_eq (time_of s (next_step s xs j)) 0) (job_end s xs j)
            (max (job_end s xs j) (machine_free s xs (machine_of s (next_step s xs j))))
            (eq-eqb (time_of s (next_step s xs j)) 0 none),
      )
  | inr some ↦
      omega (
        arith,
        cond-false (nat_eq (time_of s (next_step s xs j)) 0) (job_end s xs j)
            (max (job_end s xs j) (machine_free s xs (machine_of s (next_step s xs j))))
            (ne_eqb (time_of s (next_step s xs j)) 0 some),
      )
]

pub ready_free : (s : JobShop) (xs : List Placed) (j : ℕ) → 0 < time_of s (next_step s xs j) → machine_free s xs (machine_of s (next_step s xs j)) ≤ ready s xs j
unfolding ready
ready_free s xs j some =
    omega (
      arith,
      cond-false (nat_eq (time_of s (next_step s xs j)) 0) (job_end s xs j)
          (max (job_end s xs j) (machine_free s xs (machine_of s (next_step s xs j))))
          (ne_eqb (time_of s (next_step s xs j)) 0 (λ e. omega (arith, e, some))),
    )

pub ready_within : (s : JobShop) (xs : List Placed) (j b : ℕ) → job_end s xs j ≤ b → (0 < time_of s (next_step s xs j) → machine_free s xs (machine_of s (next_step s xs j)) ≤ b) → ready s xs j ≤ b
unfolding ready
ready_within s xs j b ended free = elim (cases_eq (time_of s (next_step s xs j)) 0) [
  | inl none ↦
      omega (
        arith,
        ended,
        cond-true (nat_eq (time_of s (next_step s xs j)) 0) (job_end s xs j)
            (max (job_end s xs j) (machine_free s xs (machine_of s (next_step s xs j))))
            (eq-eqb (time_of s (next_step s xs j)) 0 none),
      )
  | inr some ↦
      omega (
        arith,
        ended,
        free (omega (arith, some)),
        cond-false (nat_eq (time_of s (next_step s xs j)) 0)
            (job_end s xs j) (max (job_end s xs j) (machine_free s xs (machine_of s (next_step s xs j))))
            (ne_eqb (time_of s (next_step s xs j)) 0 some),
      )
]

-- with one more step, a placed step was placed before or is that step
pub placed_cases : (s : JobShop) (p : Placed) (xs : List Placed) → p.step ≡ next_step s xs p.job → (x : ℕ) →
    place_of s x < steps_done (p ∷ xs) (job_of s x) →
    (place_of s x < steps_done xs (job_of s x)) ⊎ (x ≡ p.step)
placed_cases s p xs step x l = elim (cases_eq p.job (job_of s x)) [
  | inr other ↦ inl (omega (arith, l, done_other p xs (job_of s x) other))
  | inl same ↦ elim (cases_lt (place_of s x) (steps_done xs (job_of s x))) [
    | inl before ↦ inl before
    | inr last ↦
        inr (omega (arith, l, last, done_same p xs (job_of s x) same, step, number_is s x, ap (λ j. j * s.machines) same, ap (steps_done xs) same))
  ]
]

-- the job and the place of a new step
pub new_step : (s : JobShop) (p : Placed) (xs : List Placed) → Reached s (p ∷ xs) → (job_of s p.step ≡ p.job) × (place_of s p.step ≡ steps_done xs p.job)
new_step s p xs r =
    let m = may_follow s xs p.job r.1 in
    (ap (job_of s) r.2 ∙ job_at s p.job (steps_done xs p.job) m.next, ap (place_of s) r.2 ∙ place_at s p.job (steps_done xs p.job) m.next)

pub new_below : (s : JobShop) → IsShop s → (p : Placed) (xs : List Placed) → Reached s (p ∷ xs) → p.step < count_steps s
new_below s shop p xs r =
    let m = may_follow s xs p.job r.1 in
    omega (arith, r.2, number_below s shop p.job (steps_done xs p.job) m.job m.next)

-- a new step wasn't placed before
pub new_unplaced : (s : JobShop) (p : Placed) (xs : List Placed) → Reached s (p ∷ xs) → steps_done xs (job_of s p.step) ≤ place_of s p.step
new_unplaced s p xs r =
    let n = new_step s p xs r in
    omega (arith, n.1, ap (steps_done xs) n.0)

-- and is placed now
pub new_placed : (s : JobShop) (p : Placed) (xs : List Placed) → Reached s (p ∷ xs) → place_of s p.step < steps_done (p ∷ xs) (job_of s p.step)
new_placed s p xs r =
    let n = new_step s p xs r in
    omega (arith, n.1, done_same p xs (job_of s p.step) (sym n.0), ap (steps_done xs) n.0)

-- no job has more placed steps than steps
pub done_le : (s : JobShop) (xs : List Placed) → Reached s xs → (j : ℕ) → steps_done xs j ≤ s.machines
done_le s [] r j = omega arith
done_le s (p ∷ xs) r j = elim (cases_eq p.job j) [
  | inl same ↦
      let m = may_follow s xs p.job r.1 in
      omega (arith, m.next, done_same p xs j same, ap (steps_done xs) same)
  | inr other ↦ omega (arith, done_other p xs j other, done_le s xs r.0 j)
]

-- a machine is free after all placed steps of positive time on it
pub free_of : (s : JobShop) (starts : ℕ → ℕ) (xs : List Placed) → Reached s xs → Agrees starts xs → (x : ℕ) →
    place_of s x < steps_done xs (job_of s x) → 0 < time_of s x →
    starts x + time_of s x ≤ machine_free s xs (machine_of s x)
free_of s starts [] r a x l t = absurd (omega (arith, l))
free_of s starts (p ∷ xs) r a x l t = elim (placed_cases s p xs r.2 x l) [
  | inl before ↦ omega (arith, free_of s starts xs r.0 a.1 x before t, free_more s p xs (machine_of s x))
  | inr same ↦
      let is = free_new s p xs (machine_of s x) (ap (machine_of s) (sym same)) (omega (arith, t, ap (time_of s) same)) in
      omega (arith, is, a.0, ap starts same, ap (time_of s) same)
]

-- the end of a job is that of its last placed step
pub end_is : (s : JobShop) (starts : ℕ → ℕ) (xs : List Placed) → Reached s xs → Agrees starts xs → (j k : ℕ) →
    steps_done xs j ≡ suc k → job_end s xs j ≡ starts (j * s.machines + k) + time_of s (j * s.machines + k)
end_is s starts [] r a j k e = absurd (omega (arith, e))
end_is s starts (p ∷ xs) r a j k e = elim (cases_eq p.job j) [
  | inl same ↦
      let step : p.step ≡ j * s.machines + k = omega (arith, r.2, done_same p xs j same, e, ap (λ i. i * s.machines) same, ap (steps_done xs) same) in
      omega (arith, end_same s p xs j same, a.0, ap starts step, ap (time_of s) step)
  | inr other ↦ omega (arith, end_other s p xs j other, end_is s starts xs r.0 a.1 j k (sym (done_other p xs j other) ∙ e))
]

-- and 0 if none is placed
pub end_none : (s : JobShop) (xs : List Placed) (j : ℕ) → steps_done xs j ≡ 0 → job_end s xs j ≡ 0
end_none s [] j e = refl
end_none s (p ∷ xs) j e = elim (cases_eq p.job j) [
  | inl same ↦ absurd (omega (arith, done_same p xs j same, e))
  | inr other ↦ end_other s p xs j other ∙ end_none s xs j (sym (done_other p xs j other) ∙ e)
]

-- if the last placed step of a job ends by b, the job's end is at most b
pub end_within : (s : JobShop) (starts : ℕ → ℕ) (xs : List Placed) → Reached s xs → Agrees starts xs →
    (j b : ℕ) → ((k : ℕ) → steps_done xs j ≡ suc k →
    starts (j * s.machines + k) + time_of s (j * s.machines + k) ≤ b) → job_end s xs j ≤ b
end_within s starts xs r a j b last = by_done (steps_done xs j) refl where
  by_done : (n : ℕ) → steps_done xs j ≡ n → job_end s xs j ≤ b
  by_done zero e = omega (arith, end_none s xs j e)
  by_done (suc k) e = omega (arith, end_is s starts xs r a j k e, last k e)

-- the steps of a job follow each other
pub chain_of : (s : JobShop) (starts : ℕ → ℕ) (xs : List Placed) → Reached s xs → Agrees starts xs → (x : ℕ) →
    job_of s (suc x) ≡ job_of s x → place_of s (suc x) < steps_done xs (job_of s (suc x)) →
    starts x + time_of s x ≤ starts (suc x)
chain_of s starts [] r a x same l = absurd (omega (arith, l))
chain_of s starts (p ∷ xs) r a x same l = elim (placed_cases s p xs r.2 (suc x) l) [
  | inl before ↦ chain_of s starts xs r.0 a.1 x same before
  | inr new ↦
      let n = new_step s p xs r in
      let job : job_of s x ≡ p.job = sym same ∙ ap (job_of s) new ∙ n.0 in
      let done : steps_done xs p.job ≡ suc (place_of s x) = omega (arith, n.1, ap (place_of s) new, next_place s x same) in
      let is = end_is s starts xs r.0 a.1 p.job (place_of s x) done in
      let last : p.job * s.machines + place_of s x ≡ x = omega (arith, number_is s x, ap (λ j. j * s.machines) job) in
      omega (arith, is, ap starts last, ap (time_of s) last, ready_end s xs p.job, r.3, a.0, ap starts new)
]

-- placed steps of positive time on one machine are apart
pub apart_of : (s : JobShop) (starts : ℕ → ℕ) (xs : List Placed) → Reached s xs → Agrees starts xs →
    (x y : ℕ) → x ≢ y → place_of s x < steps_done xs (job_of s x) →
    place_of s y < steps_done xs (job_of s y) → machine_of s x ≡ machine_of s y
    → 0 < time_of s x → 0 < time_of s y → (starts x + time_of s x ≤ starts y) ⊎ (starts y + time_of s y ≤ starts x)
apart_of s starts [] r a x y other lx ly same tx ty = absurd (omega (arith, lx))
apart_of s starts (p ∷ xs) r a x y other lx ly same tx ty = elim (placed_cases s p xs r.2 x lx) [
  | inl old_x ↦ elim (placed_cases s p xs r.2 y ly) [
    | inl old_y ↦ apart_of s starts xs r.0 a.1 x y other old_x old_y same tx ty
    | inr new_y ↦ inl (after x y old_x new_y same tx ty)
  ]
  | inr new_x ↦ elim (placed_cases s p xs r.2 y ly) [
    | inl old_y ↦ inr (after y x old_y new_x (sym same) ty tx)
    | inr new_y ↦ absurd (other (new_x ∙ sym new_y))
  ]
] where
  after : (u v : ℕ) → place_of s u < steps_done xs (job_of s u) → v ≡ p.step → machine_of s u ≡ machine_of s v → 0 < time_of s u → 0 < time_of s v → starts u + time_of s u ≤ starts v
  after u v old new machines tu tv =
      let step : v ≡ next_step s xs p.job = new ∙ r.2 in
      let free : machine_free s xs (machine_of s (next_step s xs p.job)) ≤ ready s xs p.job = ready_free s xs p.job (omega (arith, tv, ap (time_of s) step)) in
      omega (arith, free, free_of s starts xs r.0 a.1 u old tu, ap (machine_free s xs) machines, ap (λ z. machine_free s xs (machine_of s z)) step, r.3, a.0, ap starts new)

-- a schedule that continues a word continues the word without its last letter
pub continues_less : (s : JobShop) (starts : ℕ → ℕ) (p : Placed) (xs : List Placed) → Reached s (p ∷ xs) → Continues s starts (p ∷ xs) → Continues s starts xs
continues_less s starts p xs r con = record { placed = con.placed.1; unplaced = unplaced } where
  unplaced : (x : ℕ) → x < count_steps s → steps_done xs (job_of s x) ≤ place_of s x → 0 < time_of s x → machine_free s xs (machine_of s x) ≤ starts x
  unplaced x xl l t = elim (cases_lt (place_of s x) (steps_done (p ∷ xs) (job_of s x))) [
    | inr later ↦ omega (arith, con.unplaced x xl later t, free_more s p xs (machine_of s x))
    | inl now ↦ elim (placed_cases s p xs r.2 x now) [
      | inl before ↦ absurd (omega (arith, before, l))
      | inr new ↦
          let step : x ≡ next_step s xs p.job = new ∙ r.2 in
          let free : machine_free s xs (machine_of s (next_step s xs p.job)) ≤ ready s xs p.job = ready_free s xs p.job (omega (arith, t, ap (time_of s) step)) in
          omega (arith, free, ap (λ z. machine_free s xs (machine_of s z)) step, r.3, con.placed.0, ap starts new)
    ]
  ]

-- in a schedule that continues a word no next step starts before it is ready
pub ready_le : (s : JobShop) → IsShop s → (starts : ℕ → ℕ) (xs : List Placed) → Reached s xs →
    IsSound s starts → Continues s starts xs → (j : ℕ) → j < s.jobs → steps_done xs j < s.machines →
    ready s xs j ≤ starts (next_step s xs j)
ready_le s shop starts xs r sound con j l next = ready_within s xs j (starts (next_step s xs j)) ended free where
  below : next_step s xs j < count_steps s
  below = number_below s shop j (steps_done xs j) l next

  job : job_of s (next_step s xs j) ≡ j
  job = job_at s j (steps_done xs j) next

  free : 0 < time_of s (next_step s xs j) → machine_free s xs (machine_of s (next_step s xs j)) ≤ starts (next_step s xs j)
  free t = con.unplaced (next_step s xs j) below (omega (arith, place_at s j (steps_done xs j) next, ap (steps_done xs) job)) t

  ended : job_end s xs j ≤ starts (next_step s xs j)
  ended = end_within s starts xs r con.placed j (starts (next_step s xs j)) (λ k e.
      let after : suc (j * s.machines + k) ≡ next_step s xs j = omega (arith, e) in
      let same : job_of s (suc (j * s.machines + k)) ≡ job_of s (j * s.machines + k) = ap (job_of s) after ∙ job ∙ sym (job_at s j k (omega (arith, e, next))) in
      omega (arith, sound.chain (j * s.machines + k) (omega (arith, after, below)) same, ap starts after))

-- a step n places on in the job starts after the times of the n steps before it
pub chain_to : (s : JobShop) → IsShop s → (starts : ℕ → ℕ) → IsSound s starts → (n x : ℕ) → x < count_steps s → place_of s x + n < s.machines → starts x + times_from s x n ≤ starts (x + n)
chain_to s shop starts sound zero x l within = omega (arith, ap starts (let same : x + 0 ≡ x = omega arith in same))
chain_to s shop starts sound (suc n) x l within =
    let same : job_of s (suc x) ≡ job_of s x = next_job s x (omega (arith, within)) in
    let below : suc x < count_steps s = next_below s shop x l same in
    let rest : starts (suc x) + times_from s (suc x) n ≤ starts (suc x + n) = chain_to s shop starts sound n (suc x) below (omega (arith, next_place s x same, within)) in
    let place : suc x + n ≡ x + suc n = omega arith in
    omega (arith, rest, sound.chain x below same, ap starts place)

-- the placed steps agree with two schedules alike if these differ in an unplaced step only
pub agrees_other : (s : JobShop) (f g : ℕ → ℕ) (xs : List Placed) (z : ℕ) → Reached s xs → steps_done xs (job_of s z) ≤ place_of s z → ((x : ℕ) → x ≢ z → g x ≡ f x) → Agrees f xs → Agrees g xs
agrees_other s f g [] z r l same a = tt
agrees_other s f g (p ∷ xs) z r l same a = (
  same p.step other ∙ a.0,
  agrees_other s f g xs z r.0 (omega (arith, l, done_more p xs (job_of s z))) same a.1,
) where
  other : p.step ≢ z
  other e =
      let n = new_step s p xs r in
      let job : p.job ≡ job_of s z = sym n.0 ∙ ap (job_of s) e in
      omega (arith, l, done_same p xs (job_of s z) job, n.1, ap (place_of s) e, ap (steps_done xs) job)
