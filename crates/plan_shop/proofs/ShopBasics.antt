-- Flat numbers, and the problem of a shop: neighbours in one job, needs of machines, steps apart.
use Rattle.std.proofs.Common.{◌≡◌, ℕ, zero, suc, ◌+◌, ◌-◌, ◌*◌, ◌≤◌, ◌<◌, max, Bool, true, cond, ◌&&◌, nat_eq, nat_le, nat_lt, ◌⊎◌, ◌≢◌, inl, inr, List, [], ◌∷◌, ◌++◌, length, get_or, map, replicate, Some, None, refl, sym, ◌∙◌, ap, subst, arith}
use Rattle.std.specs.List.{Contains}
use Rattle.std.proofs.lemmas.Nat.{div-add-mod', div-mul-add, mod-mul-add, mod_below, div_below, row_fits}
use Rattle.std.proofs.lemmas.Bool.{cases_lt, cases_eq, cases_order, cond-true, cond-false, and_from, and_left, and_right, eq-eqb, ne_eqb, eqb-true, le-leb, lt-leb, lt-ltb, le-ltb}
use Rattle.std.proofs.lemmas.List.{get_or-map, length-map, length-replicate, get_or-replicate}
use Rattle.std.proofs.lemmas.List.Elements.{Contains-get_or}
use Rattle.plan_orlib.specs.declared.steps.Step.{Step}
use Rattle.plan_sgs.specs.Problem.{Link, count, duration, need, capacity, amount_of, usage, total, all_placed, KeepsArcs, KeepsCapacities, IsFeasible}
use Rattle.plan_sgs.proofs.TotalLemmas.{total_same, total_none}
use Rattle.plan_shop.specs.Shop.{JobShop, IsShop, count_steps, idle, time_of, machine_of, job_of, place_of, those_below, machine_needs, step_link, problem_of}
use Rattle.plan_shop.specs.Laws.{IsChained, IsApart, ArcsAreNeighbours, NeedsAreMachines, CapacitiesKeepApart}
use Rattle.plan_shop.proofs.NumberLemmas.{there_passes, passes_there}

-- a list of starts as a function
abbrev pub at : List ℕ → ℕ → ℕ
at starts x = get_or starts x 0

-- a flat number from its job and its place, and back
pub number_is : (s : JobShop) (x : ℕ) → job_of s x * s.machines + place_of s x ≡ x
number_is s x = div-add-mod' x s.machines

pub job_at : (s : JobShop) (j i : ℕ) → i < s.machines → job_of s (j * s.machines + i) ≡ j
job_at s j i l = div-mul-add j s.machines i l

pub place_at : (s : JobShop) (j i : ℕ) → i < s.machines → place_of s (j * s.machines + i) ≡ i
place_at s j i l = mod-mul-add j s.machines i l

pub place_below : (s : JobShop) → IsShop s → (x : ℕ) → place_of s x < s.machines
place_below s shop x = mod_below x s.machines shop.some_machine

pub job_below : (s : JobShop) → IsShop s → (x : ℕ) → x < count_steps s → job_of s x < s.jobs
job_below s shop x l = div_below x s.machines s.jobs shop.some_machine (omega (arith, l, shop.all_steps))

pub number_below : (s : JobShop) → IsShop s → (j i : ℕ) → j < s.jobs → i < s.machines → j * s.machines + i < count_steps s
number_below s shop j i l m =
    let row : j * s.machines + s.machines ≤ s.jobs * s.machines = row_fits j s.machines s.jobs s.machines l (omega arith) in
    omega (arith, row, m, shop.all_steps)

-- the next number in the same job has the next place
pub next_place : (s : JobShop) (x : ℕ) → job_of s (suc x) ≡ job_of s x → place_of s (suc x) ≡ suc (place_of s x)
next_place s x same = omega (arith, number_is s x, number_is s (suc x), ap (λ j. j * s.machines) same)

pub next_below : (s : JobShop) → IsShop s → (x : ℕ) → x < count_steps s → job_of s (suc x) ≡ job_of s x → suc x < count_steps s
next_below s shop x l same =
    let below : job_of s x * s.machines + place_of s (suc x) < count_steps s = number_below s shop (job_of s x) (place_of s (suc x)) (job_below s shop x l) (place_below s shop (suc x)) in
    omega (arith, below, number_is s (suc x), ap (λ j. j * s.machines) same)

-- and the job has a next step if the index isn't the last
pub next_job : (s : JobShop) (x : ℕ) → suc (place_of s x) < s.machines → job_of s (suc x) ≡ job_of s x
next_job s x l =
    let same : suc x ≡ job_of s x * s.machines + suc (place_of s x) = omega (arith, number_is s x) in
    ap (job_of s) same ∙ job_at s (job_of s x) (suc (place_of s x)) l

-- steps one after the other in each job, and apart on each machine
pub record IsSound (s : JobShop) (starts : ℕ → ℕ) : Type 0 where
  pub chain : (x : ℕ) → suc x < count_steps s → job_of s (suc x) ≡ job_of s x → starts x + time_of s x ≤ starts (suc x)
  pub apart : (x y : ℕ) → x < y → y < count_steps s → machine_of s x ≡ machine_of s y → 0 < time_of s x → 0 < time_of s y → (starts x + time_of s x ≤ starts y) ⊎ (starts y + time_of s y ≤ starts x)

pub apart_both : (s : JobShop) (starts : ℕ → ℕ) → IsSound s starts → (x y : ℕ) → x ≢ y → x < count_steps s → y < count_steps s → machine_of s x ≡ machine_of s y → 0 < time_of s x → 0 < time_of s y
    → (starts x + time_of s x ≤ starts y) ⊎ (starts y + time_of s y ≤ starts x)
apart_both s starts sound x y other lx ly same tx ty = elim (cases_order x y) [
  | inl e ↦ absurd (other e)
  | inr (inl before) ↦ sound.apart x y before ly same tx ty
  | inr (inr after) ↦ elim (sound.apart y x after lx (sym same) ty tx) [ inl h ↦ inr h | inr h ↦ inl h ]
]

-- how long a step lasts in the problem
times_are : (xs : List Step) (x : ℕ) → get_or (map (λ w. w.time) xs) x 0 ≡ (get_or xs x idle).time
times_are [] x = refl
times_are (w ∷ xs) zero = refl
times_are (w ∷ xs) (suc x) = times_are xs x

pub duration_is : (s : JobShop) (x : ℕ) → duration (problem_of s) x ≡ time_of s x
unfolding problem_of
duration_is s x = times_are s.steps x

pub count_is : (s : JobShop) → count (problem_of s) ≡ count_steps s
unfolding problem_of
count_is s = length-map s.steps (λ w. w.time)

-- whether the number after x is in its job
abbrev goes_on : JobShop → ℕ → Bool
goes_on s x = nat_eq (job_of s (suc x)) (job_of s x)

-- a link of a step to the next one is kept
abbrev keeps_link : JobShop → List ℕ → Link → Type 0
keeps_link s starts a = get_or starts a.from 0 + duration (problem_of s) a.from + a.lag ≤ get_or starts a.to 0

chained_from : (s : JobShop) (starts : List ℕ) → KeepsArcs (problem_of s) starts → IsChained s starts
unfolding problem_of
chained_from s starts keeps x l same =
    let there : Contains (those_below (count_steps s) (goes_on s)) x = passes_there (count_steps s) (goes_on s) x (omega (arith, l)) (eq-eqb (job_of s (suc x)) (job_of s x) same) in
    let xs = those_below (count_steps s) (goes_on s) in
    let inside : there.0 < length (map step_link xs) = omega (arith, there.1, length-map xs step_link) in
    let link : get_or (map step_link xs) there.0 (step_link x) ≡ step_link x = get_or-map step_link xs there.0 x (step_link x) there.1 ∙ ap step_link there.2 in
    let kept : keeps_link s starts (step_link x) = subst (λ (a : Link). keeps_link s starts a) link (keeps there.0 (step_link x) inside) in
    omega (arith, kept, duration_is s x)

keeps_from : (s : JobShop) → IsShop s → (starts : List ℕ) → IsChained s starts → KeepsArcs (problem_of s) starts
unfolding problem_of
keeps_from s shop starts chain k d l =
    let xs = those_below (count_steps s) (goes_on s) in
    let inside : k < length xs = omega (arith, l, length-map xs step_link) in
    let x = get_or xs k 0 in
    let t = there_passes (count_steps s) (goes_on s) x (Contains-get_or xs k 0 inside) in
    let same : job_of s (suc x) ≡ job_of s x = eqb-true (job_of s (suc x)) (job_of s x) t.1 in
    let kept : get_or starts x 0 + time_of s x ≤ get_or starts (suc x) 0 = chain x (next_below s shop x t.0 same) same in
    let kept' : keeps_link s starts (step_link x) = omega (arith, kept, duration_is s x) in
    let link : get_or (map step_link xs) k d ≡ step_link x = get_or-map step_link xs k 0 d inside in
    subst (λ (a : Link). keeps_link s starts a) (sym link) kept'

-- the links of the problem are the neighbours in one job
pub arcs_are_neighbours : (s : JobShop) → IsShop s → ArcsAreNeighbours s
unfolding ArcsAreNeighbours
arcs_are_neighbours s shop starts = (chained_from s starts, keeps_from s shop starts)

zeros : (r k : ℕ) → get_or (replicate r zero) k zero ≡ zero
zeros zero k = refl
zeros (suc r) zero = refl
zeros (suc r) (suc k) = zeros r k

-- a row of needs is 1 at the machine
row_same : (m r : ℕ) → get_or (replicate m zero ++ suc zero ∷ replicate r zero) m zero ≡ suc zero
row_same zero r = refl
row_same (suc m) r = row_same m r

-- and 0 elsewhere
row_other : (m r k : ℕ) → (m ≡ k → ⊥) → get_or (replicate m zero ++ suc zero ∷ replicate r zero) k zero ≡ zero
row_other zero r zero other = absurd (other refl)
row_other zero r (suc k) other = zeros r k
row_other (suc m) r zero other = refl
row_other (suc m) r (suc k) other = row_other m r k (λ e. other (ap suc e))

row_at : (m r k : ℕ) → get_or (replicate m zero ++ suc zero ∷ replicate r zero) k zero ≡ cond (nat_eq m k) (suc zero) zero
row_at m r k = elim (cases_eq m k) [
  | inl same ↦ ap (λ i. get_or (replicate m zero ++ suc zero ∷ replicate r zero) i zero) (sym same) ∙ row_same m r ∙ sym (cond-true (nat_eq m k) (suc zero) zero (eq-eqb m k same))
  | inr other ↦ row_other m r k other ∙ sym (cond-false (nat_eq m k) (suc zero) zero (ne_eqb m k other))
]

pub needs_are_machines : (s : JobShop) → NeedsAreMachines s
unfolding NeedsAreMachines problem_of
needs_are_machines s x k l =
    let row : get_or (map (λ w. machine_needs s.machines w.machine) s.steps) x [] ≡ machine_needs s.machines
    (machine_of s x) = get_or-map (λ (w : Step). machine_needs s.machines w.machine) s.steps x idle
    [] l in
    ap (λ (ns : List ℕ). get_or ns k 0) row ∙ row_at (machine_of s x) (s.machines - suc (machine_of s x)) k

-- the usage of a machine at an instant by a step that starts there
abbrev taken : JobShop → List ℕ → ℕ → ℕ → ℕ → ℕ
taken s starts t k x = amount_of (problem_of s) t k x (Some (at starts x))

need_of : (s : JobShop) (x k : ℕ) → x < count_steps s → need (problem_of s) x k ≡ cond (nat_eq (machine_of s x) k) 1 0
unfolding NeedsAreMachines
need_of s x k l = needs_are_machines s x k l

taken_during : (s : JobShop) (starts : List ℕ) (t k x : ℕ) → x < count_steps s → machine_of s x ≡ k → at starts x ≤ t → t < at starts x + time_of s x → taken s starts t k x ≡ 1
taken_during s starts t k x l same since before =
    let under : t < at starts x + duration (problem_of s) x = omega (arith, before, duration_is s x) in
    let test : (nat_le (at starts x) t && nat_lt t (at starts x + duration (problem_of s) x)) ≡ true =
    and_from (nat_le (at starts x) t) (nat_lt t (at starts x + duration (problem_of s) x))
    (le-leb (at starts x) t since) (lt-ltb t (at starts x + duration (problem_of s) x) under) in
    cond-true (nat_le (at starts x) t && nat_lt t (at starts x + duration (problem_of s) x)) (need (problem_of s) x k) 0 test
    ∙ need_of s x k l
    ∙ cond-true (nat_eq (machine_of s x) k) 1 0 (eq-eqb (machine_of s x) k same)

-- a step on the machine that is under way
pub record IsUnderWay (s : JobShop) (starts : List ℕ) (t k x : ℕ) : Type 0 where
  pub machine : machine_of s x ≡ k
  pub since : at starts x ≤ t
  pub before : t < at starts x + time_of s x

-- a step uses 0, or is under way on the machine and uses 1
taken_cases : (s : JobShop) (starts : List ℕ) (t k x : ℕ) → x < count_steps s → (taken s starts t k x ≡ 0) ⊎ (IsUnderWay s starts t k x × (taken s starts t k x ≡ 1))
taken_cases s starts t k x l = elim (cases_lt t (at starts x)) [
  | inl early ↦
      inl (cond-false (nat_le (at starts x) t && nat_lt t (at starts x + duration (problem_of s) x))
      (need (problem_of s) x k) 0 (and_left (nat_le (at starts x) t)
      (nat_lt t (at starts x + duration (problem_of s) x)) (lt-leb (at starts x) t early)))
  | inr since ↦ elim (cases_lt t (at starts x + duration (problem_of s) x)) [
    | inr late ↦
        inl (cond-false (nat_le (at starts x) t && nat_lt t (at starts x + duration (problem_of s) x))
        (need (problem_of s) x k) 0 (and_right (nat_le (at starts x) t)
        (nat_lt t (at starts x + duration (problem_of s) x))
        (le-ltb t (at starts x + duration (problem_of s) x) late)))
    | inl under ↦ elim (cases_eq (machine_of s x) k) [
      | inl same ↦
          let before : t < at starts x + time_of s x = omega (arith, under, duration_is s x) in
          inr (record { machine = same; since = since; before = before }, taken_during s starts t k x l same since before)
      | inr other ↦
          let test : (nat_le (at starts x) t && nat_lt t (at starts x + duration (problem_of s) x)) ≡ true =
          and_from (nat_le (at starts x) t) (nat_lt t (at starts x + duration (problem_of s) x))
          (le-leb (at starts x) t since) (lt-ltb t (at starts x + duration (problem_of s) x) under) in
          inl (cond-true (nat_le (at starts x) t && nat_lt t (at starts x + duration (problem_of s) x)) (need (problem_of s) x k) 0 test
          ∙ need_of s x k l
          ∙ cond-false (nat_eq (machine_of s x) k) 1 0 (ne_eqb (machine_of s x) k other))
    ]
  ]
]

-- two terms of 1 make at least 2
total_two : (n : ℕ) (f : ℕ → ℕ) (x y : ℕ) → x < y → y < n → f x ≡ 1 → f y ≡ 1 → 2 ≤ total n f
total_two zero f x y l m fx fy = absurd (omega (arith, m))
total_two (suc n) f x y l m fx fy = elim (cases_eq y n) [
  | inl same ↦ omega (arith, total_one n f x (omega (arith, l, same)) fx, fy, ap f same)
  | inr other ↦ omega (arith, total_two n f x y l (omega (arith, m, other)) fx fy)
] where
  total_one : (n : ℕ) (f : ℕ → ℕ) (x : ℕ) → x < n → f x ≡ 1 → 1 ≤ total n f
  total_one zero f x l e = absurd (omega (arith, l))
  total_one (suc n) f x l e = elim (cases_eq x n) [
    | inl same ↦ omega (arith, e, ap f same)
    | inr other ↦ omega (arith, total_one n f x (omega (arith, l, other)) e)
  ]

-- if at most one term is 1 and the others are 0, the sum is at most 1
total_alone : (n : ℕ) (f : ℕ → ℕ) → ((x : ℕ) → x < n → (f x ≡ 0) ⊎ (f x ≡ 1)) → ((x y : ℕ) → x < y → y < n → f x ≡ 1 → f y ≡ 1 → ⊥) → total n f ≤ 1
total_alone zero f each alone = omega arith
total_alone (suc n) f each alone = elim (each n (omega arith)) [
  | inl none ↦ omega (arith, none, total_alone n f (λ x l. each x (omega (arith, l))) (λ x y l m. alone x y l (omega (arith, m))))
  | inr one ↦
      let rest : total n f ≡ 0 = total_none n f (λ x l. elim (each x (omega (arith, l))) [ inl none ↦ none | inr some ↦ absurd (alone x n l (omega arith) some one) ]) in
      omega (arith, rest, one)
]

usage_is : (s : JobShop) (starts : List ℕ) (t k : ℕ) → length starts ≡ count_steps s → usage (problem_of s) (all_placed starts) t k ≡ total (count (problem_of s)) (taken s starts t k)
unfolding usage
usage_is s starts t k whole =
    total_same (count (problem_of s)) (λ i. amount_of (problem_of s) t k i (get_or (all_placed starts) i None)) (taken s starts t k) (λ i below.
    ap (amount_of (problem_of s) t k i) (get_or-map Some starts i 0 None (omega (arith, below, whole, count_is s))))

capacity_is : (s : JobShop) (k : ℕ) → k < s.machines → capacity (problem_of s) k ≡ 1
unfolding problem_of
capacity_is s k l = get_or-replicate s.machines k 1 0 l

resources_are : (s : JobShop) → length (problem_of s).capacities ≡ s.machines
unfolding problem_of
resources_are s = length-replicate {A = ℕ} s.machines 1

machine_below : (s : JobShop) → IsShop s → (x : ℕ) → x < count_steps s → machine_of s x < s.machines
machine_below s shop x l = shop.on_machines x idle l

apart_from : (s : JobShop) → IsShop s → (starts : List ℕ) → length starts ≡ count_steps s → KeepsCapacities (problem_of s) (all_placed starts) → IsApart s starts
apart_from s shop starts whole keeps x y l m same tx ty = elim (cases_lt (at starts y) (at starts x + time_of s x)) [
  | inr after ↦ inl after
  | inl over ↦ elim (cases_lt (at starts x) (at starts y + time_of s y)) [
    | inr before ↦ inr before
    | inl under ↦
        let t = max (at starts x) (at starts y) in
        let k = machine_of s x in
        let below : x < count_steps s = omega (arith, l, m) in
        let low : k < s.machines = machine_below s shop x below in
        let first : taken s starts t k x ≡ 1 = taken_during s starts t k x below refl (omega arith) (omega (arith, over, tx)) in
        let second : taken s starts t k y ≡ 1 = taken_during s starts t k y m (sym same) (omega arith) (omega (arith, under, ty)) in
        let two : 2 ≤ total (count (problem_of s)) (taken s starts t k) = total_two (count (problem_of s)) (taken s starts t k) x y l (omega (arith, m, count_is s)) first second in
        absurd (omega (arith, two, usage_is s starts t k whole, keeps t k (omega (arith, low, resources_are s)), capacity_is s k low))
  ]
]

capacities_from : (s : JobShop) → (starts : List ℕ) → length starts ≡ count_steps s → IsApart s starts → KeepsCapacities (problem_of s) (all_placed starts)
capacities_from s starts whole apart t k within =
    let alone : total (count (problem_of s)) (taken s starts t k) ≤ 1 = total_alone (count (problem_of s)) (taken s starts t k) each two in
    omega (arith, alone, usage_is s starts t k whole, capacity_is s k (omega (arith, within, resources_are s))) where
      each : (x : ℕ) → x < count (problem_of s) → (taken s starts t k x ≡ 0) ⊎ (taken s starts t k x ≡ 1)
      each x l = elim (taken_cases s starts t k x (omega (arith, l, count_is s))) [ inl none ↦ inl none | inr some ↦ inr some.1 ]

      under_way : (x : ℕ) → x < count_steps s → taken s starts t k x ≡ 1 → IsUnderWay s starts t k x
      under_way x l one = elim (taken_cases s starts t k x l) [ inl none ↦ absurd (omega (arith, none, one)) | inr some ↦ some.0 ]

      two : (x y : ℕ) → x < y → y < count (problem_of s) → taken s starts t k x ≡ 1 → taken s starts t k y ≡ 1 → ⊥
      two x y l m fx fy =
          let below : y < count_steps s = omega (arith, m, count_is s) in
          let ux = under_way x (omega (arith, l, below)) fx in
          let uy = under_way y below fy in
          elim (apart x y l below (ux.machine ∙ sym uy.machine) (omega (arith, ux.since, ux.before)) (omega (arith, uy.since, uy.before))) [
            | inl before ↦ omega (arith, before, ux.before, uy.since)
            | inr after ↦ omega (arith, after, uy.before, ux.since)
          ]

-- the capacities are kept exactly if no two steps on a machine overlap
pub capacities_keep_apart : (s : JobShop) → IsShop s → CapacitiesKeepApart s
unfolding CapacitiesKeepApart
capacities_keep_apart s shop starts whole = (apart_from s shop starts whole, capacities_from s starts whole)

pub sound_from : (s : JobShop) → IsShop s → (starts : List ℕ) → IsFeasible (problem_of s) starts → IsSound s (at starts)
sound_from s shop starts feasible = record {
  chain = chained_from s starts feasible.arcs;
  apart = apart_from s shop starts (feasible.each_started ∙ count_is s) feasible.capacities;
}

pub feasible_from : (s : JobShop) → IsShop s → (starts : List ℕ) → length starts ≡ count_steps s → IsSound s (at starts) → IsFeasible (problem_of s) starts
feasible_from s shop starts whole sound = record {
  each_started = whole ∙ sym (count_is s);
  arcs = keeps_from s shop starts sound.chain;
  capacities = capacities_from s starts whole sound.apart;
}
