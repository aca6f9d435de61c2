-- Which letters may follow: exactly those that Giffler and Thompson's rule names.
use Rattle.std.proofs.Common.{◌≡◌, ℕ, zero, suc, ◌≤◌, ◌<◌, true, ◌&&◌, nat_eq, nat_lt, ◌⊎◌, inl, inr, List, [], ◌∷◌, length, get_or, refl, sym, ◌∙◌, ap, subst, arith}
use Rattle.std.specs.List.{Contains, AllPairs}
use Rattle.std.proofs.lemmas.Bool.{cases_lt, cases_eq, cases_order, and_parts, and_from, eqb-true, eq-eqb, ltb-true, lt-ltb}
use Rattle.std.proofs.lemmas.List.{get_or_default}
use Rattle.plan_shop.specs.Shop.{JobShop, time_of, machine_of}
use Rattle.plan_shop.specs.Words.{Placed, steps_done, has_next, next_step, ready, next_end, letter_of, with_next, with_zero, rivals, rivals_of_first, jobs_by, jobs_after}
use Rattle.plan_shop.specs.Laws.{IsFirstLeast, IsFirstZero, IsFirstEnd, Competes, LettersAreThese}
use Rattle.plan_shop.proofs.NumberLemmas.{there_passes, passes_there, those_rise, first_least_is}
use Rattle.plan_shop.proofs.Reached.{is_zero, is_rival, soonest, soonest_there, soonest_least, zero_passes, all_positive, nil_has_none, jobs_by_zero, jobs_by_rivals, job_there, letter_there, next_from, has_next_from}

-- in a rising list a lesser number has a lesser index
place_less : (ks : List ℕ) → AllPairs (λ a b. a < b) ks → (i j : ℕ) → i < length ks → j < length ks → get_or ks i 0 < get_or ks j 0 → i < j
place_less ks rise i j l m less = elim (cases_lt i j) [
  | inl before ↦ before
  | inr not_before ↦ elim (cases_eq i j) [
    | inl same ↦ absurd (omega (arith, less, ap (λ (k : ℕ). get_or ks k 0) same))
    | inr apart ↦ absurd (omega (arith, less, rise j i 0 (omega (arith, not_before, apart)) l))
  ]
]

-- the first of a rising list is the least
head_least : (ks : List ℕ) (z : ℕ) (zs : List ℕ) → AllPairs (λ a b. a < b) ks → ks ≡ z ∷ zs → (k : ℕ) → Contains ks k → z ≤ k
head_least ks z zs rise is k (i, l, e) = elim (cases_lt k z) [
  | inr not_less ↦ not_less
  | inl less ↦
      let here : get_or ks i 0 ≡ k = get_or_default ks i 0 k l ∙ e in
      let top : get_or ks 0 0 ≡ z = ap (λ (ys : List ℕ). get_or ys 0 0) is in
      absurd (omega (arith, place_less ks rise i 0 l (omega (arith, l)) (omega (arith, here, top, less))))
]

-- the jobs with a next step, and those with one of time 0
with_zero_there : (s : JobShop) (xs : List Placed) (k : ℕ) → k < s.jobs → steps_done xs k < s.machines → time_of s (next_step s xs k) ≡ 0 → Contains (with_zero s xs) k
with_zero_there s xs k l next none =
    passes_there s.jobs (is_zero s xs) k l (and_from (has_next s xs k) (nat_eq (time_of s (next_step s xs k)) 0) (has_next_from s xs k next) (eq-eqb (time_of s (next_step s xs k)) 0 none))

with_next_there : (s : JobShop) (xs : List Placed) (k : ℕ) → k < s.jobs → steps_done xs k < s.machines → Contains (with_next s xs) k
with_next_there s xs k l next = passes_there s.jobs (has_next s xs) k l (has_next_from s xs k next)

-- the first of those of time 0 is the least such job
first_zero : (s : JobShop) (xs : List Placed) (z : ℕ) (zs : List ℕ) → with_zero s xs ≡ z ∷ zs → IsFirstZero s xs z
first_zero s xs z zs is =
    let t = zero_passes s xs z (subst (λ (ks : List ℕ). Contains ks z) (sym is) (0, omega arith, refl)) in
    record { job = t.0; next = t.1; none = t.2; first = first t.0 }
  where
    first : z < s.jobs → (k : ℕ) → k < z → steps_done xs k < s.machines → 0 < time_of s (next_step s xs k)
    first l k less next = elim (cases_eq (time_of s (next_step s xs k)) 0) [
      | inr some ↦ omega (arith, some)
      | inl none ↦
          let c : Contains (with_zero s xs) k = with_zero_there s xs k (omega (arith, l, less)) next none in
          absurd (omega (arith, less, head_least (with_zero s xs) z zs (those_rise s.jobs (is_zero s xs)) is k c))
    ]

-- the soonest is the least job of the first end
first_end : (s : JobShop) (xs : List Placed) (n : ℕ) (ns : List ℕ) → with_next s xs ≡ n ∷ ns → IsFirstEnd s xs (soonest s xs n ns)
first_end s xs n ns are =
    let f = soonest_there s xs n ns are in
    record { job = f.0; next = f.1; least = soonest_least s xs n ns are; first = first f.0 }
  where
    h : IsFirstLeast (next_end s xs) (n ∷ ns) (soonest s xs n ns)
    h = first_least_is (next_end s xs) n ns

    rise : AllPairs (λ a b. a < b) (n ∷ ns)
    rise = subst (λ (ks : List ℕ). AllPairs (λ a b. a < b) ks) are (those_rise s.jobs (has_next s xs))

    first : soonest s xs n ns < s.jobs → (k : ℕ) → k < soonest s xs n ns → steps_done xs k < s.machines → next_end s xs (soonest s xs n ns) < next_end s xs k
    first l k less next =
        let c : Contains (n ∷ ns) k = subst (λ (ks : List ℕ). Contains ks k) are (with_next_there s xs k (omega (arith, l, less)) next) in
        let here : get_or (n ∷ ns) c.0 0 ≡ k = get_or_default (n ∷ ns) c.0 0 k c.1 ∙ c.2 in
        let before : c.0 < h.place = place_less (n ∷ ns) rise c.0 h.place c.1 h.inside (omega (arith, here, h.there, less)) in
        omega (arith, h.first c.0 before, ap (next_end s xs) here)

-- and no other is
one_first_end : (s : JobShop) (xs : List Placed) (a b : ℕ) → IsFirstEnd s xs a → IsFirstEnd s xs b → a ≡ b
one_first_end s xs a b p q = elim (cases_order a b) [
  | inl same ↦ same
  | inr (inl less) ↦ absurd (omega (arith, q.first a less p.next, p.least b q.job q.next))
  | inr (inr less) ↦ absurd (omega (arith, p.first b less q.next, q.least a p.job p.next))
]

job_is : (s : JobShop) (xs : List Placed) (j : ℕ) (zs ns : List ℕ) → with_zero s xs ≡ zs → with_next s xs ≡ ns → Contains (jobs_after s xs) j → IsFirstZero s xs j ⊎ Competes s xs j
unfolding jobs_after
job_is s xs j (z ∷ zs) ns none are c =
    let k = subst (λ (ks : List ℕ). Contains (jobs_by s xs ks) j) none c in
    let same : z ≡ j = only_head z j k in
    inl (subst (λ (i : ℕ). IsFirstZero s xs i) same (first_zero s xs z zs none))
  where
    only_head : (z j : ℕ) → Contains (z ∷ []) j → z ≡ j
    only_head z j (zero, l, e) = e
    only_head z j (suc k, l, e) = absurd (omega (arith, l))
job_is s xs j [] [] none are c =
    let k = subst (λ (ks : List ℕ). Contains (jobs_by s xs ks) j) none c in
    absurd (nil_has_none (rivals_of_first s xs (with_next s xs)) j (ap (rivals_of_first s xs) are) k)
job_is s xs j [] (n ∷ ns) none are c =
    let b = soonest s xs n ns in
    let k = subst (λ (ks : List ℕ). Contains (jobs_by s xs ks) j) none c in
    let k' : Contains (rivals s xs b) j = subst (λ (ks : List ℕ). Contains (rivals_of_first s xs ks) j) are k in
    let t = there_passes s.jobs (is_rival s xs b) j k' in
    let u = and_parts (has_next s xs j) (nat_eq (machine_of s (next_step s xs j)) (machine_of s (next_step s xs b)) && nat_lt (ready s xs j) (next_end s xs b)) t.1 in
    let v = and_parts (nat_eq (machine_of s (next_step s xs j)) (machine_of s (next_step s xs b))) (nat_lt (ready s xs j) (next_end s xs b)) u.1 in
    inr (record {
      job = t.0;
      next = next_from s xs j u.0;
      positive = all_positive s xs none;
      winner = b;
      first_end = first_end s xs n ns are;
      machine = eqb-true (machine_of s (next_step s xs j)) (machine_of s (next_step s xs b)) v.0;
      sooner = ltb-true (ready s xs j) (next_end s xs b) v.1;
    })

zero_is_there : (s : JobShop) (xs : List Placed) (j : ℕ) (zs : List ℕ) → with_zero s xs ≡ zs → IsFirstZero s xs j → Contains (jobs_after s xs) j
zero_is_there s xs j [] is f = absurd (nil_has_none (with_zero s xs) j is (with_zero_there s xs j f.job f.next f.none))
zero_is_there s xs j (z ∷ zs) is f =
    let g : IsFirstZero s xs z = first_zero s xs z zs is in
    let low : z ≤ j = head_least (with_zero s xs) z zs (those_rise s.jobs (is_zero s xs)) is j (with_zero_there s xs j f.job f.next f.none) in
    let same : z ≡ j = elim (cases_lt z j) [ inl less ↦ absurd (omega (arith, f.first z less g.next, g.none)) | inr not_less ↦ omega (arith, low, not_less) ] in
    subst (λ (ks : List ℕ). Contains ks j) (sym (jobs_by_zero s xs z zs is)) (0, omega arith, same)

rival_is_there : (s : JobShop) (xs : List Placed) (j : ℕ) (zs ns : List ℕ) → with_zero s xs ≡ zs → with_next s xs ≡ ns → Competes s xs j → Contains (jobs_after s xs) j
rival_is_there s xs j (z ∷ zs) ns none are c =
    let g : IsFirstZero s xs z = first_zero s xs z zs none in
    absurd (omega (arith, c.positive z g.job g.next, g.none))
rival_is_there s xs j [] [] none are c = absurd (nil_has_none (with_next s xs) j are (with_next_there s xs j c.job c.next))
rival_is_there s xs j [] (n ∷ ns) none are c =
    let b = soonest s xs n ns in
    let same : c.winner ≡ b = one_first_end s xs c.winner b c.first_end (first_end s xs n ns are) in
    let machine : machine_of s (next_step s xs j) ≡ machine_of s (next_step s xs b) = c.machine ∙ ap (λ i. machine_of s (next_step s xs i)) same in
    let sooner : ready s xs j < next_end s xs b = omega (arith, c.sooner, ap (next_end s xs) same) in
    let test : is_rival s xs b j ≡ true = and_from (has_next s xs j)
    (nat_eq (machine_of s (next_step s xs j)) (machine_of s (next_step s xs b))
    && nat_lt (ready s xs j) (next_end s xs b)) (has_next_from s xs j c.next)
    (and_from (nat_eq (machine_of s (next_step s xs j)) (machine_of s (next_step s xs b)))
    (nat_lt (ready s xs j) (next_end s xs b)) (eq-eqb (machine_of s (next_step s xs j))
    (machine_of s (next_step s xs b)) machine) (lt-ltb (ready s xs j) (next_end s xs b) sooner)) in
    subst (λ (ks : List ℕ). Contains ks j) (sym (jobs_by_rivals s xs n ns none are)) (passes_there s.jobs (is_rival s xs b) j c.job test)

-- the letters that may follow are those of the first next step of time 0, or of the steps that
-- compete
pub letters_are_these : (s : JobShop) → LettersAreThese s
unfolding LettersAreThese
letters_are_these s xs j = (
  λ c. job_is s xs j (with_zero s xs) (with_next s xs) refl refl (job_there (jobs_after s xs) (letter_of j) c),
  λ c. letter_there (jobs_after s xs) j (elim c [
    | inl z ↦ zero_is_there s xs j (with_zero s xs) refl z
    | inr r ↦ rival_is_there s xs j (with_zero s xs) (with_next s xs) refl refl r
  ]),
)
