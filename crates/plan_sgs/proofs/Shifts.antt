-- Activities of a feasible list that can start earlier while all others keep their starts.
use Rattle.std.proofs.Common.{ℕ, ◌≡◌, ◌≢◌, ◌+◌, ◌-◌, ◌≤◌, ◌<◌, ◌⊎◌, inl, inr, List, length, get_or, set, Some, sym, ◌∙◌, ap, arith}
use Rattle.std.specs.List.{All}
use Rattle.std.proofs.lemmas.Bool.{cases_lt, cases_eq}
use Rattle.std.proofs.lemmas.List.{length-set, get_or-set_same, get_or-set_other}
use Rattle.plan_profile.specs.Usage.{Fits, IsEarliest}
use Rattle.plan_sgs.specs.Problem.{Problem, Link, count, duration, need, capacity, amount_of, usage, all_placed, KeepsCapacities, IsFeasible}
use Rattle.plan_sgs.specs.Verdicts.{HasShift}
use Rattle.plan_sgs.proofs.TotalLemmas.{total_changed}
use Rattle.plan_sgs.proofs.AmountLemmas.{amount_during, amount_before}
use Rattle.plan_sgs.proofs.StartLemmas.{amount_at, amount_late, amount_left, usage_is}

-- the predecessors of an activity have ended, with the lags, by an instant
abbrev pub IsReleasedBy : Problem → List ℕ → ℕ → ℕ → Type 0
IsReleasedBy p s j t = All (λ a. a.to ≡ j → a.from ≢ j → get_or s a.from 0 + duration p a.from + a.lag ≤ t) p.links

-- from an instant on, as far as it lasts and before its start, an activity fits beside all that is
-- in use
abbrev pub FitsBeforeStart : Problem → List ℕ → ℕ → ℕ → Type 0
FitsBeforeStart p s j t =
    (u k : ℕ) → t ≤ u → u < t + duration p j → u < get_or s j 0 → k < length p.capacities → usage p (all_placed s) u k + need p j k ≤ capacity p k

-- an activity can start at an earlier instant while all others keep their starts
pub record CanStartAt (p : Problem) (s : List ℕ) (j t : ℕ) : Type 0 where
  pub earlier : t < get_or s j 0
  pub released : IsReleasedBy p s j t
  pub fits : FitsBeforeStart p s j t

-- a link is kept once an activity has moved to an earlier instant at which it is released
link_moved : (p : Problem) (s other : List ℕ) (j t : ℕ) (a : Link) → get_or other j 0 ≡ t → ((i : ℕ) → i ≢ j → get_or other i 0 ≡ get_or s i 0) → t < get_or s j 0
    → (a.to ≡ j → a.from ≢ j → get_or s a.from 0 + duration p a.from + a.lag ≤ t) → get_or s a.from 0 + duration p a.from + a.lag ≤ get_or s a.to 0
    → get_or other a.from 0 + duration p a.from + a.lag ≤ get_or other a.to 0
link_moved p s other j t a here rest earlier released kept = elim (cases_eq a.from j) [
  | inl from ↦
      let from_is : get_or other a.from 0 ≡ t = ap (λ (i : ℕ). get_or other i 0) from ∙ here in
      let from_was : get_or s a.from 0 ≡ get_or s j 0 = ap (λ (i : ℕ). get_or s i 0) from in
      elim (cases_eq a.to j) [
        | inl to ↦
            let to_is : get_or other a.to 0 ≡ t = ap (λ (i : ℕ). get_or other i 0) to ∙ here in
            let to_was : get_or s a.to 0 ≡ get_or s j 0 = ap (λ (i : ℕ). get_or s i 0) to in
            omega (arith, from_is, from_was, to_is, to_was, kept)
        | inr apart ↦ omega (arith, from_is, from_was, rest a.to apart, kept, earlier)
      ]
  | inr from ↦ elim (cases_eq a.to j) [
    | inl to ↦
        let to_is : get_or other a.to 0 ≡ t = ap (λ (i : ℕ). get_or other i 0) to ∙ here in
        omega (arith, rest a.from from, to_is, released to from)
    | inr apart ↦ omega (arith, rest a.from from, rest a.to apart, kept)
  ]
]

-- before the old start, usage grows by the needs of the moved activity
usage_before : (p : Problem) (s other : List ℕ) (j u k : ℕ) → length s ≡ count p → length other ≡ count p → j < count p → ((i : ℕ) → i ≢ j → get_or other i 0 ≡ get_or s i 0) → u < get_or s j 0
    → usage p (all_placed s) u k + amount_at p other u k j ≡ usage p (all_placed other) u k
usage_before p s other j u k whole whole' inside rest early =
    let none : amount_at p s u k j ≡ 0 = amount_before p u k j (get_or s j 0) early in
    let same : (i : ℕ) → i < count p → i ≢ j → amount_at p s u k i ≡ amount_at p other u k i = λ i below apart. ap (λ (x : ℕ). amount_of p u k i (Some x)) (sym (rest i apart)) in
    let changed = total_changed (count p) (amount_at p s u k) (amount_at p other u k) j (amount_at p other u k j) inside same (omega (arith, none)) in
    omega (arith, changed, usage_is p s u k whole, usage_is p other u k whole')

-- from the old start on usage doesn't grow
usage_after : (p : Problem) (s other : List ℕ) (j u k : ℕ) → length s ≡ count p → length other ≡ count p →
    j < count p → ((i : ℕ) → i ≢ j → get_or other i 0 ≡ get_or s i 0) → get_or other j 0 ≤ get_or s j 0 →
    get_or s j 0 ≤ u
    → usage p (all_placed other) u k ≤ usage p (all_placed s) u k
usage_after p s other j u k whole whole' inside rest order since =
    let less : amount_at p other u k j ≤ amount_at p s u k j = amount_left p u k j (get_or other j 0) (get_or s j 0) order since in
    let same : (i : ℕ) → i < count p → i ≢ j → amount_at p other u k i ≡ amount_at p s u k i = λ i below apart. ap (λ (x : ℕ). amount_of p u k i (Some x)) (rest i apart) in
    let changed = total_changed (count p) (amount_at p other u k) (amount_at p s u k) j (amount_at p s u k j - amount_at p other u k j) inside same (omega (arith, less)) in
    omega (arith, changed, usage_is p s u k whole, usage_is p other u k whole')

-- capacities are kept once an activity has moved to an earlier instant from which on it fits
capacities_moved : (p : Problem) (s other : List ℕ) (j t : ℕ) → IsFeasible p s → length other ≡ count p →
    j < count p → get_or other j 0 ≡ t → ((i : ℕ) → i ≢ j → get_or other i 0 ≡ get_or s i 0) →
    CanStartAt p s j t → KeepsCapacities p (all_placed other)
capacities_moved p s other j t feasible whole inside here rest can u k within =
    let earlier : t < get_or s j 0 = can.earlier in
    elim (cases_lt u (get_or s j 0)) [
      | inr after ↦ omega (arith, usage_after p s other j u k feasible.each_started whole inside rest (omega (arith, here, earlier)) after, feasible.capacities u k within)
      | inl before ↦
          let more = usage_before p s other j u k feasible.each_started whole inside rest before in
          elim (cases_lt u t) [
            | inl early ↦ omega (arith, more, amount_before p u k j (get_or other j 0) (omega (arith, early, here)), feasible.capacities u k within)
            | inr since ↦ elim (cases_lt u (t + duration p j)) [
              | inl lasts ↦ omega (arith, more, amount_during p u k j (get_or other j 0) (omega (arith, since, here)) (omega (arith, lasts, here)), can.fits u k since lasts before within)
              | inr late ↦ omega (arith, more, amount_late p u k j (get_or other j 0) (omega (arith, late, here)), feasible.capacities u k within)
            ]
          ]
    ]

-- an activity that can start at an earlier instant has a left shift
pub shift_from_start : (p : Problem) (s : List ℕ) (j t : ℕ) → IsFeasible p s → j < count p → CanStartAt p s j t → HasShift p s j
shift_from_start p s j t feasible inside can = record {
  other = set s j t;
  inside = inside;
  shift = record { less = omega (arith, here, can.earlier); rest = rest };
  feasible = record {
    each_started = size;
    arcs = λ n d within. link_moved p s (set s j t) j t (get_or p.links n d) here rest can.earlier (can.released n d within) (feasible.arcs n d within);
    capacities = capacities_moved p s (set s j t) j t feasible size inside here rest can;
  };
} where
  size : length (set s j t) ≡ count p
  size = length-set s j t ∙ feasible.each_started

  here : get_or (set s j t) j 0 ≡ t
  here = get_or-set_same s j t 0 (omega (arith, inside, feasible.each_started))

  rest : (i : ℕ) → i ≢ j → get_or (set s j t) i 0 ≡ get_or s i 0
  rest i apart = get_or-set_other s j i t 0 apart

-- an activity with a left shift can start at an earlier instant
pub start_from_shift : (p : Problem) (s : List ℕ) (j : ℕ) → IsFeasible p s → HasShift p s j → (t : ℕ) × CanStartAt p s j t
start_from_shift p s j feasible has =
    let other = has.other in (
      get_or other j 0,
      record {
        earlier = has.shift.less;
        released = λ n d within to from.
            let a = get_or p.links n d in
            let to_is : get_or other a.to 0 ≡ get_or other j 0 = ap (λ (i : ℕ). get_or other i 0) to in
            omega (arith, has.feasible.arcs n d within, has.shift.rest a.from from, to_is);
        fits = λ u k since lasts before within.
            omega (
              arith,
              usage_before p s other j u k feasible.each_started has.feasible.each_started
                  has.inside has.shift.rest before,
              amount_during p u k j
                  (get_or other j 0) since lasts,
              has.feasible.capacities u k within,
            );
      },
    )

-- the least instant at which the predecessors let an activity start
pub record IsRelease (p : Problem) (s : List ℕ) (j r : ℕ) : Type 0 where
  pub released : IsReleasedBy p s j r
  pub least : (t : ℕ) → IsReleasedBy p s j t → r ≤ t

-- a profile that holds the usage before an activity's start, and the query for that activity
pub record IsAskedFor (p : Problem) (s : List ℕ) (j : ℕ) (caps : List ℕ) (used : ℕ → ℕ → ℕ) (d : ℕ) (needs : List ℕ) : Type 0 where
  pub capacities : caps ≡ p.capacities
  pub held : (t k : ℕ) → t < get_or s j 0 → k < length p.capacities → used t k ≡ usage p (all_placed s) t k
  pub lasts : d ≡ duration p j
  pub each : (k : ℕ) → need p j k ≡ get_or needs k 0

-- an interval that fits in the profile and ends by the start, or its part before the start, is room
-- for the activity
fits_to : (p : Problem) (s : List ℕ) (j t d : ℕ) (caps : List ℕ) (used : ℕ → ℕ → ℕ) (length_of : ℕ)
    (needs : List ℕ) → IsAskedFor p s j caps used length_of needs → Fits caps used t d needs → (u k : ℕ) →
    t ≤ u → u < t + d → u < get_or s j 0 → k < length p.capacities →
    usage p (all_placed s) u k + need p j k ≤ capacity p k
fits_to p s j t d caps used length_of needs asked fits u k since before early within =
    let at : t + (u - t) ≡ u = omega (arith, since) in
    let room : used (t + (u - t)) k + get_or needs k 0 ≤ get_or caps k 0 = fits (u - t) k (omega (arith, since, before)) (omega (arith, within, ap length asked.capacities)) in
    omega (arith, room, ap (λ (x : ℕ). used x k) at, asked.held u k early within, asked.each k, ap (λ (xs : List ℕ). get_or xs k 0) asked.capacities)

-- and the reverse
fits_from : (p : Problem) (s : List ℕ) (j t d : ℕ) (caps : List ℕ) (used : ℕ → ℕ → ℕ) (length_of : ℕ) (needs : List ℕ) → IsAskedFor p s j caps used length_of needs → t + d ≤ get_or s j 0
    → ((u k : ℕ) → t ≤ u → u < t + d → u < get_or s j 0 → k < length p.capacities → usage p (all_placed s) u k + need p j k ≤ capacity p k) → Fits caps used t d needs
fits_from p s j t d caps used length_of needs asked ends room x k below within =
    let early : t + x < get_or s j 0 = omega (arith, below, ends) in
    let within' : k < length p.capacities = omega (arith, within, ap length asked.capacities) in
    omega (arith, room (t + x) k (omega arith) (omega (arith, below)) early within', asked.held (t + x) k early within', asked.each k, ap (λ (xs : List ℕ). get_or xs k 0) asked.capacities)

-- an activity at its release, or before it, can't start earlier
pub shift_after_release : (p : Problem) (s : List ℕ) (j r : ℕ) → IsFeasible p s → IsRelease p s j r → HasShift p s j → r < get_or s j 0
shift_after_release p s j r feasible release has =
    let start = start_from_shift p s j feasible has in
    omega (arith, start.1.earlier, release.least start.0 start.1.released)

-- an interval that fits beside all activities and ends by the old start is a left shift
pub shift_by_earliest : (p : Problem) (s : List ℕ) (j r : ℕ) (caps : List ℕ) (used : ℕ → ℕ → ℕ) (d : ℕ)
    (needs : List ℕ) (t : ℕ) → IsFeasible p s → j < count p → IsRelease p s j r → r < get_or s j 0 →
    IsAskedFor p s j caps used d needs
    → IsEarliest caps used r d needs t → t + d ≤ get_or s j 0 → HasShift p s j
shift_by_earliest p s j r caps used d needs t feasible inside release late asked earliest ends = shift_from_start p s j t feasible inside (record {
  earlier = before (cases_lt 0 d);
  released = λ n e within to from. omega (arith, release.released n e within to from, earliest.since);
  fits = λ u k since lasts early within. fits_to p s j t d caps used d needs asked earliest.fitting u k since (omega (arith, lasts, asked.lasts)) early within;
}) where
  before : (0 < d) ⊎ (d ≤ 0) → t < get_or s j 0
  before (inl some) = omega (arith, some, ends)
  before (inr none) =
      let soon : t ≤ r = earliest.least r (omega arith) (λ x k below within. absurd (omega (arith, below, none))) in
      omega (arith, soon, late)

-- so is room at the last instant before the old start
pub shift_by_last : (p : Problem) (s : List ℕ) (j r : ℕ) (caps : List ℕ) (used : ℕ → ℕ → ℕ) (d : ℕ)
    (needs : List ℕ) → IsFeasible p s → j < count p → IsRelease p s j r → r < get_or s j 0 →
    IsAskedFor p s j caps used d needs
    → Fits caps used (get_or s j 0 - 1) 1 needs → HasShift p s j
shift_by_last p s j r caps used d needs feasible inside release late asked fits = shift_from_start p s j (get_or s j 0 - 1) feasible inside (record {
  earlier = omega (arith, late);
  released = λ n e within to from. omega (arith, release.released n e within to from, late);
  fits = λ u k since lasts early within. fits_to p s j (get_or s j 0 - 1) 1 caps used d needs asked fits u k since (omega (arith, early)) early within;
})

-- and there is no other left shift: an interval that doesn't end by the old start contains the last
-- instant before it
pub shift_found : (p : Problem) (s : List ℕ) (j r : ℕ) (caps : List ℕ) (used : ℕ → ℕ → ℕ) (d : ℕ)
    (needs : List ℕ) (t : ℕ) → IsFeasible p s → IsRelease p s j r → IsAskedFor p s j caps used d needs →
    IsEarliest caps used r d needs t
    → HasShift p s j → (t + d ≤ get_or s j 0) ⊎ Fits caps used (get_or s j 0 - 1) 1 needs
shift_found p s j r caps used d needs t feasible release asked earliest has =
    let start = start_from_shift p s j feasible has in
    let at = start.0 in
    let can = start.1 in
    let before : at < get_or s j 0 = can.earlier in
    elim (cases_lt (get_or s j 0) (at + d)) [
      | inr ends ↦
          let fits : Fits caps used at d needs = fits_from p s j at d caps used d needs asked ends
          (λ u k since lasts early within. can.fits u k since
          (omega (arith, lasts, asked.lasts)) early within) in
          inl (omega (arith, ends, earliest.least at (release.least at can.released) fits))
      | inl over ↦
          inr (fits_from p s j (get_or s j 0 - 1) 1 caps used d needs asked (omega (arith, before))
          (λ u k since lasts early within. can.fits u k (omega (arith, since, before))
          (omega (arith, early, over, asked.lasts)) early within))
    ]
