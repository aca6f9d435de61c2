-- Each list of starts has a verdict, since all its parts are decidable.
use Rattle.std.proofs.Common.{ℕ, zero, suc, ◌≡◌, ◌≢◌, ◌+◌, ◌-◌, ◌≤◌, ◌<◌, ◌⊎◌, inl, inr, List, length, get_or, refl, sym, subst, arith}
use Rattle.std.proofs.lemmas.Bool.{cases_lt, cases_eq}
use Rattle.std.proofs.lemmas.List.Elements.{Contains-get_or, All-from_get_or}
use Rattle.plan_sgs.specs.Problem.{Problem, Link, count, duration, need, capacity, usage, all_placed, KeepsArcs, KeepsCapacities, IsFeasible, IsActive}
use Rattle.plan_sgs.specs.Verdicts.{Breaks, IsNoLater, IsFirstBroken, IsOver, IsFirstOver, HasShift, IsFirstShift, IsFirstVerdict}
use Rattle.plan_sgs.specs.declared.verdict.Verdict.{Verdict}
use Rattle.plan_sgs.specs.declared.verdict.Verdict.TheVariants.{Arc, Over, Shift, Active}
use Rattle.plan_sgs.proofs.Findings.{keeps_at_starts}
use Rattle.plan_sgs.proofs.Shifts.{IsReleasedBy, FitsBeforeStart, shift_from_start, start_from_shift}

-- it holds or it doesn't
abbrev pub Decided : Type 0 → Type 0
Decided P = P ⊎ (P → ⊥)

decided_lt : (a b : ℕ) → Decided (a < b)
decided_lt a b = elim (cases_lt a b) [ inl less ↦ inl less | inr more ↦ inr (λ less. omega (arith, less, more)) ]

decided_le : (a b : ℕ) → Decided (a ≤ b)
decided_le a b = elim (cases_lt b a) [ inl more ↦ inr (λ less. omega (arith, less, more)) | inr less ↦ inl less ]

decided_both : (P Q : Type 0) → Decided P → Decided Q → Decided (P × Q)
decided_both P Q (inl p) (inl q) = inl (p, q)
decided_both P Q (inl p) (inr not) = inr (λ both. not both.1)
decided_both P Q (inr not) q = inr (λ both. not both.0)

decided_given : (P Q : Type 0) → Decided P → Decided Q → Decided (P → Q)
decided_given P Q p (inl q) = inl (λ given. q)
decided_given P Q (inl p) (inr not) = inr (λ leads. not (leads p))
decided_given P Q (inr none) (inr not) = inl (λ given. absurd (none given))

decided_not : (P : Type 0) → Decided P → Decided (P → ⊥)
decided_not P (inl p) = inr (λ not. not p)
decided_not P (inr not) = inl not

-- the first number below n with P, or the fact that there is none
pub first_below : (P : ℕ → Type 0) → ((i : ℕ) → Decided (P i)) → (n : ℕ) → ((i : ℕ) → i < n → P i → ⊥) ⊎ ((i : ℕ) × (i < n) × P i × ((h : ℕ) → h < i → P h → ⊥))
first_below P decide zero = inl (λ i below has. omega (arith, below))
first_below P decide (suc n) = elim (first_below P decide n) [
  | inr found ↦ inr (found.0, omega (arith, found.1), found.2, found.3)
  | inl none ↦ elim (decide n) [
    | inl here ↦ inr (n, omega arith, here, none)
    | inr not ↦ inl (λ i below has. elim (cases_eq i n) [
      | inl same ↦ not (subst P same has)
      | inr other ↦ none i (omega (arith, below, other)) has
    ])
  ]
]

-- the least number of all at which something holds that holds at n
pub least_of : (P : ℕ → Type 0) → ((i : ℕ) → Decided (P i)) → (n : ℕ) → P n → (i : ℕ) × P i × ((h : ℕ) → P h → i ≤ h)
least_of P decide n has = elim (first_below P decide (suc n)) [
  | inl none ↦ absurd (none n (omega arith) has)
  | inr found ↦ (found.0, found.2, λ h here. elim (cases_lt h found.0) [ inl before ↦ absurd (found.3 h before here) | inr after ↦ after ])
]

-- whether it holds at some number below n
pub decided_some : (P : ℕ → Type 0) → ((i : ℕ) → Decided (P i)) → (n : ℕ) → Decided ((i : ℕ) × (i < n) × P i)
decided_some P decide n = elim (first_below P decide n) [
  | inl none ↦ inr (λ some. none some.0 some.1 some.2)
  | inr found ↦ inl (found.0, found.1, found.2)
]

-- whether it holds at each number below n
pub decided_each : (P : ℕ → Type 0) → ((i : ℕ) → Decided (P i)) → (n : ℕ) → Decided ((i : ℕ) → i < n → P i)
decided_each P decide n = elim (first_below (λ i. P i → ⊥) (λ i. decided_not (P i) (decide i)) n) [
  | inr found ↦ inr (λ each. found.2 (each found.0 found.1))
  | inl none ↦ inl (λ i below. elim (decide i) [ inl has ↦ has | inr not ↦ absurd (none i below not) ])
]

-- an arc from no activity to itself, for places past the end
abbrev idle : Link
idle = record { from = 0; to = 0; lag = 0 }

abbrev link_at : Problem → ℕ → Link
link_at p m = get_or p.links m idle

decided_breaks : (p : Problem) (s : List ℕ) (a : Link) → Decided (Breaks p s a)
decided_breaks p s a = decided_lt (get_or s a.to 0) (get_or s a.from 0 + duration p a.from + a.lag)

-- some broken link leads from i
abbrev BreaksFrom : Problem → List ℕ → ℕ → Type 0
BreaksFrom p s i = (m : ℕ) × (m < length p.links) × (Breaks p s (link_at p m) × ((link_at p m).from ≡ i))

-- some broken link leads from i to j
abbrev BreaksTo : Problem → List ℕ → ℕ → ℕ → Type 0
BreaksTo p s i j = (m : ℕ) × (m < length p.links) × ((Breaks p s (link_at p m) × ((link_at p m).from ≡ i)) × ((link_at p m).to ≡ j))

decided_from : (p : Problem) (s : List ℕ) (i : ℕ) → Decided (BreaksFrom p s i)
decided_from p s i = decided_some (λ m. Breaks p s (link_at p m) × ((link_at p m).from ≡ i))
    (λ m. decided_both (Breaks p s (link_at p m)) ((link_at p m).from ≡ i) (decided_breaks p s (link_at p m))
    (cases_eq (link_at p m).from i)) (length p.links)

decided_to : (p : Problem) (s : List ℕ) (i j : ℕ) → Decided (BreaksTo p s i j)
decided_to p s i j = decided_some (λ m. (Breaks p s (link_at p m) × ((link_at p m).from ≡ i)) × ((link_at p m).to ≡ j))
    (λ m. decided_both (Breaks p s (link_at p m) × ((link_at p m).from ≡ i)) ((link_at p m).to ≡ j)
    (decided_both (Breaks p s (link_at p m)) ((link_at p m).from ≡ i) (decided_breaks p s (link_at p m)) (cases_eq (link_at p m).from i)) (cases_eq (link_at p m).to j)) (length p.links)

-- a broken link by its place
broken_at : (p : Problem) (s : List ℕ) (m : ℕ) → m < length p.links → Breaks p s (link_at p m) → (i : ℕ) × (j : ℕ) × IsFirstBroken p s i j
broken_at p s m within breaks =
    let from = least_of (BreaksFrom p s) (decided_from p s) (link_at p m).from (m, within, (breaks, refl)) in
    let i = from.0 in
    let first = from.1 in
    let to = least_of (BreaksTo p s i) (decided_to p s i) (link_at p first.0).to (first.0, first.1, (first.2, refl)) in
    let there = to.1 in (
      i,
      to.0,
      record {
        broken = (link_at p there.0, Contains-get_or p.links there.0 idle there.1, there.2.0.0, there.2.0.1, there.2.1);
        first = All-from_get_or (λ a. Breaks p s a → IsNoLater i to.0 a.from a.to) p.links idle (λ n inside other.
            let order : i ≤ (link_at p n).from = from.2 (link_at p n).from (n, inside, (other, refl)) in
            elim (cases_lt i (link_at p n).from) [
              | inl before ↦ inl before
              | inr after ↦
                  let same : i ≡ (link_at p n).from = omega (arith, order, after) in
                  inr (same, to.2 (link_at p n).to (n, inside, ((other, sym same), refl)))
            ]);
      },
    )

-- either all links are kept, or one is the first that is broken
pub arcs_found : (p : Problem) (s : List ℕ) → KeepsArcs p s ⊎ ((i : ℕ) × (j : ℕ) × IsFirstBroken p s i j)
arcs_found p s = elim (first_below (λ m. Breaks p s (link_at p m)) (λ m. decided_breaks p s (link_at p m)) (length p.links)) [
  | inl none ↦ inl (All-from_get_or (λ a. get_or s a.from 0 + duration p a.from + a.lag ≤ get_or s a.to 0)
      p.links idle (λ m within. elim (cases_lt (get_or s (link_at p m).to 0)
      (get_or s (link_at p m).from 0 + duration p (link_at p m).from + (link_at p m).lag)) [
        | inl breaks ↦ absurd (none m within breaks)
        | inr keeps ↦ keeps
      ]))
  | inr found ↦ inr (broken_at p s found.0 found.1 found.2)
]

-- the usage of some resource exceeds its capacity
abbrev IsOverAt : Problem → List ℕ → ℕ → Type 0
IsOverAt p s t = (k : ℕ) × (k < length p.capacities) × (capacity p k < usage p (all_placed s) t k)

decided_over : (p : Problem) (s : List ℕ) (t : ℕ) → Decided (IsOverAt p s t)
decided_over p s t = decided_some (λ k. capacity p k < usage p (all_placed s) t k) (λ k. decided_lt (capacity p k) (usage p (all_placed s) t k)) (length p.capacities)

-- an overload is found by its instant and then by its resource
over_at : (p : Problem) (s : List ℕ) (t : ℕ) → KeepsArcs p s → IsOverAt p s t → (u : ℕ) × (k : ℕ) × IsFirstOver p s u k
over_at p s t arcs over =
    let instant = least_of (IsOverAt p s) (decided_over p s) t over in
    let u = instant.0 in
    let here = instant.1 in
    let resource = least_of (λ k. (k < length p.capacities) × (capacity p k < usage p (all_placed s) u k))
    (λ k. decided_both (k < length p.capacities) (capacity p k < usage p (all_placed s) u k)
    (decided_lt k (length p.capacities)) (decided_lt (capacity p k) (usage p (all_placed s) u k))) here.0
    (here.1, here.2) in (
      u,
      resource.0,
      record {
        arcs = arcs;
        over = record { inside = resource.1.0; more = resource.1.1 };
        first = λ v l other.
            let order : u ≤ v = instant.2 v (l, other.inside, other.more) in
            elim (cases_lt u v) [
              | inl before ↦ inl before
              | inr after ↦
                  let same : u ≡ v = omega (arith, order, after) in
                  let there : IsOver p s u l = subst (λ (x : ℕ). IsOver p s x l) (sym same) other in
                  inr (same, resource.2 l (there.inside, there.more))
            ];
      },
    )

-- either the capacities are kept, or there is a first overload
pub over_found : (p : Problem) (s : List ℕ) → length s ≡ count p → KeepsArcs p s → KeepsCapacities p (all_placed s) ⊎ ((t : ℕ) × (k : ℕ) × IsFirstOver p s t k)
over_found p s whole arcs = elim (first_below (λ i. IsOverAt p s (get_or s i 0)) (λ i. decided_over p s (get_or s i 0)) (count p)) [
  | inl none ↦ inl (keeps_at_starts p s whole (λ i k inside over. none i inside (k, over.inside, over.more)))
  | inr found ↦ inr (over_at p s (get_or s found.0 0) arcs found.2)
]

decided_released : (p : Problem) (s : List ℕ) (j t : ℕ) → Decided (IsReleasedBy p s j t)
decided_released p s j t = elim (decided_each (λ m. IsKept (link_at p m)) (λ m. kept (link_at p m)) (length p.links)) [
  | inl each ↦ inl (All-from_get_or IsKept p.links idle each)
  | inr not ↦ inr (λ released. not (λ m within. released m idle within))
] where
  IsKept : Link → Type 0
  IsKept a = a.to ≡ j → a.from ≢ j → get_or s a.from 0 + duration p a.from + a.lag ≤ t

  kept : (a : Link) → Decided (IsKept a)
  kept a = decided_given (a.to ≡ j) (a.from ≢ j → get_or s a.from 0 + duration p a.from + a.lag ≤ t) (cases_eq a.to j)
      (decided_given (a.from ≢ j) (get_or s a.from 0 + duration p a.from + a.lag ≤ t) (decided_not (a.from ≡ j) (cases_eq a.from j)) (decided_le (get_or s a.from 0 + duration p a.from + a.lag) t))

decided_fits : (p : Problem) (s : List ℕ) (j t : ℕ) → Decided (FitsBeforeStart p s j t)
decided_fits p s j t = elim (decided_each HasRoomAt (λ u. room u) (get_or s j 0)) [
  | inl each ↦ inl (λ u k since lasts before within. each u before since lasts k within)
  | inr not ↦ inr (λ fits. not (λ u before since lasts k within. fits u k since lasts before within))
] where
  HasRoom : ℕ → Type 0
  HasRoom u = (k : ℕ) → k < length p.capacities → usage p (all_placed s) u k + need p j k ≤ capacity p k

  HasRoomAt : ℕ → Type 0
  HasRoomAt u = t ≤ u → u < t + duration p j → HasRoom u

  room : (u : ℕ) → Decided (HasRoomAt u)
  room u = decided_given (t ≤ u) (u < t + duration p j → HasRoom u) (decided_le t u) (decided_given (u < t + duration p j) (HasRoom u) (decided_lt u (t + duration p j))
      (decided_each (λ k. usage p (all_placed s) u k + need p j k ≤ capacity p k) (λ k. decided_le (usage p (all_placed s) u k + need p j k) (capacity p k)) (length p.capacities)))

-- whether an activity of a feasible list can start earlier
pub decided_shift : (p : Problem) (s : List ℕ) (j : ℕ) → IsFeasible p s → j < count p → Decided (HasShift p s j)
decided_shift p s j feasible inside =
    elim (decided_some (λ t. IsReleasedBy p s j t × FitsBeforeStart p s j t)
    (λ t. decided_both (IsReleasedBy p s j t) (FitsBeforeStart p s j t) (decided_released p s j t)
    (decided_fits p s j t)) (get_or s j 0)) [
      | inl can ↦ inl (shift_from_start p s j can.0 feasible inside (record { earlier = can.1; released = can.2.0; fits = can.2.1 }))
      | inr not ↦ inr (λ has. let start = start_from_shift p s j feasible has in not (start.0, start.1.earlier, (start.1.released, start.1.fits)))
    ]

-- a feasible list is active, or some activity is the first that can start earlier
pub shift_found_first : (p : Problem) (s : List ℕ) → IsFeasible p s → IsActive p s ⊎ ((j : ℕ) × IsFirstShift p s j)
shift_found_first p s feasible = elim (first_below (λ j. (j < count p) × HasShift p s j) decide (count p)) [
  | inl none ↦ inl (record { feasible = feasible; no_shift = λ other j inside shift fine. none j inside (inside, record { other = other; inside = inside; shift = shift; feasible = fine }) })
  | inr found ↦ inr (
    found.0,
    record {
      feasible = feasible;
      shift = found.2.1;
      first = λ i has. elim (cases_lt i found.0) [ inl before ↦ absurd (found.3 i before (has.inside, has)) | inr after ↦ after ];
    },
  )
] where
  decide : (j : ℕ) → Decided ((j < count p) × HasShift p s j)
  decide j = elim (cases_lt j (count p)) [
    | inl inside ↦ elim (decided_shift p s j feasible inside) [ inl has ↦ inl (inside, has) | inr not ↦ inr (λ both. not both.1) ]
    | inr outside ↦ inr (λ both. let inside : j < count p = both.0 in omega (arith, inside, outside))
  ]

-- on each list of one start for each activity there is a verdict
pub verdict_there : (p : Problem) (s : List ℕ) → length s ≡ count p → (v : Verdict) × IsFirstVerdict p s v
verdict_there p s whole = elim (arcs_found p s) [
  | inr broken ↦ (
    Arc (suc broken.0) (suc broken.1),
    (
      omega arith,
      omega arith,
      subst (λ (x : ℕ). IsFirstBroken p s x (suc broken.1 - 1)) (less broken.0)
          (subst (IsFirstBroken p s broken.0) (less broken.1) broken.2),
    ),
  )
  | inl arcs ↦ elim (over_found p s whole arcs) [
    | inr over ↦ (Over over.0 (suc over.1), (omega arith, subst (IsFirstOver p s over.0) (less over.1) over.2))
    | inl capacities ↦ elim (shift_found_first p s (record { each_started = whole; arcs = arcs; capacities = capacities })) [
      | inl active ↦ (Active, active)
      | inr shift ↦ (Shift (suc shift.0), (omega arith, subst (IsFirstShift p s) (less shift.0) shift.1))
    ]
  ]
] where
  less : (n : ℕ) → n ≡ suc n - 1
  less n = omega arith
