-- Energy: activities that are in a window for their times need no more, over time, than is present in
-- the window.
use Rattle.std.proofs.Common.{◌≡◌, ◌≢◌, ℕ, zero, suc, ◌+◌, ◌-◌, ◌*◌, ◌≤◌, ◌<◌, inl, inr, List, [], ◌∷◌, take, length, get_or, refl, sym, ap, arith}
use Rattle.std.proofs.Math.Nat.{mul-suc}
use Rattle.std.specs.List.{All, AllPairs, sum_by}
use Rattle.std.proofs.lemmas.Bool.{cases_lt, cases_eq}
use Rattle.std.proofs.lemmas.List.{take_all}
use Rattle.std.proofs.lemmas.List.Sums.{sum_by-cons, sum_by_more}
use Rattle.std.proofs.lemmas.List.Elements.{All-head, All-tail}
use Rattle.plan_sgs.specs.Problem.{Problem, count, duration, need, capacity, total, IsFeasible}
use Rattle.plan_sgs.proofs.TotalLemmas.{total_same, total_none, total_plus, total_limit, total_above}
use Rattle.plan_sgs.proofs.AmountLemmas.{amount_during}
use Rattle.plan_sgs.proofs.StartLemmas.{usage_is, total_longer}
use Rattle.plan_kernel.specs.declared.reason.Member.{Member}
use Rattle.plan_kernel.specs.declared.input.Absence.{Absence}
use Rattle.plan_kernel.specs.declared.input.Input.{Input}
use Rattle.plan_kernel.specs.Inputs.{problem_of, amount_at}
use Rattle.plan_kernel.specs.Plans.{taken_by, absent, IsPlan}
use Rattle.plan_kernel.specs.Reasons.{energy_of, taken_in, absent_in}
use Rattle.plan_kernel.proofs.PlanLemmas.{taken_during}
use Rattle.plan_kernel.proofs.FeasibleLemmas.{no_absence}

-- a block of equal terms is part of a sum
block_total : (start size r : ℕ) (f : ℕ → ℕ) → ((x : ℕ) → x < size → f (start + x) ≡ r) → r * size ≤ total (start + size) f
block_total start zero r f same = omega arith
block_total start (suc size) r f same =
    let last : total (start + suc size) f ≡ total (start + size) f + f (start + size) =
    let next : start + suc size ≡ suc (start + size) = omega arith in ap (λ (m : ℕ). total m f) next in
    let before : r * size ≤ total (start + size) f = block_total start size r f (λ x low. same x (omega (arith, low))) in
    let more : r * suc size ≡ r * size + r = mul-suc r size in
    omega (arith, last, before, more, same size (omega arith))

-- what an activity that is in a window for a time needs in it
pub window_need : (p : Problem) (starts : List ℕ) (k from until : ℕ) (m : Member) → from < until → m.time ≤ duration p m.activity → from + m.time ≤ until
    → from + m.time ≤ get_or starts m.activity 0 + duration p m.activity → get_or starts m.activity 0 + m.time ≤ until
    → need p m.activity k * m.time ≤ total (until - from) (λ t. amount_at p starts (from + t) k m.activity)
window_need p starts k from until m some lasts room late early = elim (cases_lt from (get_or starts m.activity 0)) [
  | inl after ↦
      let start : ℕ = get_or starts m.activity 0 - from in
      omega (
        arith,
        after,
        early,
        block_total start m.time (need p m.activity k) f
            (λ x low. amount_during p (from + (start + x)) k m.activity (get_or starts m.activity 0)
            (omega (arith, after)) (omega (arith, low, lasts, after))),
        total_longer (start + m.time) (until - from) f (omega (arith, after, early)),
      )
  | inr before ↦
      omega (
        arith,
        before,
        block_total 0 m.time (need p m.activity k) f (λ x low. amount_during p (from + (0 + x)) k m.activity (get_or starts m.activity 0) (omega (arith, before)) (omega (arith, low, late))),
        total_longer (0 + m.time) (until - from) f (omega (arith, room)),
      )
] where
  f : ℕ → ℕ
  f t = amount_at p starts (from + t) k m.activity

-- sums over members that are no less
sum_grows : (f g : Member → ℕ) (members : List Member) → All (λ m. f m ≤ g m) members → sum_by f members ≤ sum_by g members
sum_grows f g [] most = omega arith
sum_grows f g (m ∷ members) most =
    let first : f m ≤ g m = All-head (λ n. f n ≤ g n) m members most in
    omega (arith, sum_by-cons f m members, sum_by-cons g m members, first, sum_grows f g members (All-tail (λ n. f n ≤ g n) m members most))

-- members that rise are part of a sum over all activities
members_total : (n low : ℕ) (f : ℕ → ℕ) (members : List Member) → low ≤ n → All (λ m. low ≤ m.activity) members → All (λ m. m.activity < n) members
    → AllPairs (λ m o. m.activity < o.activity) members → total low f + sum_by (λ m. f m.activity) members ≤ total n f
members_total n low f [] order from below rising = omega (arith, total_longer low n f order)
members_total n low f (m ∷ members) order from below rising =
    let i : ℕ = m.activity in
    let first : low ≤ i = All-head (λ o. low ≤ o.activity) m members from in
    let last : i < n = All-head (λ o. o.activity < n) m members below in
    let later : All (λ o. suc i ≤ o.activity) members = λ k d within. omega (arith, rising 0 (suc k) d (omega arith) (omega (arith, within))) in
    let apart : AllPairs (λ o q. o.activity < q.activity) members = λ j k d less within. rising (suc j) (suc k) d (omega (arith, less)) (omega (arith, within)) in
    let rest : total (suc i) f + sum_by (λ o. f o.activity) members ≤ total n f =
    members_total n (suc i) f members (omega (arith, last)) later (All-tail (λ o. o.activity < n) m members below) apart in
    omega (arith, sum_by-cons (λ (o : Member). f o.activity) m members, total_longer low i f first, rest)

-- the sums over a list at the instants of a window are those over the instants for each element
sums_turned : {X : Type 0} (w : ℕ) (f : ℕ → X → ℕ) (xs : List X) → total w (λ t. sum_by (f t) xs) ≡ sum_by (λ x. total w (λ t. f t x)) xs
sums_turned {X = X} w f [] = total_none w (λ t. sum_by (f t) []) (λ t low. refl)
sums_turned {X = X} w f (x ∷ xs) =
    omega (
      arith,
      total_same w (λ t. sum_by (f t) (x ∷ xs)) (λ t. f t x + sum_by (f t) xs) (λ t low. sum_by-cons (f t) x xs),
      total_plus w (λ t. f t x) (λ t. sum_by (f t) xs),
      sums_turned w f xs,
      sum_by-cons (λ (y : X). total w (λ t. f t y)) x xs,
    )

-- what an absence takes in its part of a window
pub absence_takes : (a : Absence) (k from until first behind : ℕ) → a.resource ≡ k → a.from ≤ first → from ≤ first → first < behind → behind ≤ a.until → behind ≤ until
    → a.amount * (behind - first) ≤ taken_in k from until a
absence_takes a k from until first behind same since late some before within =
    let start : ℕ = first - from in
    let size : ℕ = behind - first in
    omega (
      arith,
      block_total start size a.amount f (λ x low. taken_during (from + (start + x)) k a same (omega (arith, since, late)) (omega (arith, low, late, before))),
      total_longer (start + size) (until - from) f (omega (arith, late, some, within)),
    ) where
      f : ℕ → ℕ
      f x = taken_by (from + x) k a

-- what all absences take in a window is absent in it
pub absences_take : (input : Input) (k from until : ℕ) → sum_by (taken_in k from until) input.absences.items ≡ absent_in input k from until
absences_take input k from until = sym (sums_turned (until - from) (λ (x : ℕ) (a : Absence). taken_by (from + x) k a) input.absences.items)

-- what one absence more takes at least
pub absent_least : (f : Absence → ℕ) (items all : List Absence) (i sum more new : ℕ) → items ≡ all → i < length items → sum ≤ sum_by f (take i all)
    → more ≤ f (get_or items i no_absence) → new ≤ sum + more → new ≤ sum_by f (take (i + 1) all)
absent_least f items all i sum more new same inside before small less =
    let step : sum_by f (take (i + 1) items) ≡ sum_by f (take i items) + f (get_or items i no_absence) = sum_by_more f items i no_absence inside in
    omega (arith, before, small, less, step, ap (λ (xs : List Absence). sum_by f (take i xs)) same, ap (λ (xs : List Absence). sum_by f (take (i + 1) xs)) same)

-- what all absences take at least
pub least_whole : (input : Input) (k from until i sum : ℕ) → length input.absences.items ≤ i → sum ≤ sum_by (taken_in k from until) (take i input.absences.items)
    → sum ≤ absent_in input k from until
least_whole input k from until i sum whole small =
    omega (arith, small, ap (λ (xs : List Absence). sum_by (taken_in k from until) xs) (take_all i input.absences.items whole), absences_take input k from until)

-- members that rise and are each in a window for their times need no more than is present in it
pub energy_within : (input : Input) (starts : List ℕ) (k from until : ℕ) (members : List Member) → IsPlan input starts → k < length (problem_of input).capacities
    → AllPairs (λ m o. m.activity < o.activity) members → All (λ m. m.activity < count (problem_of input)) members
    → All (λ m. need (problem_of input) m.activity k * m.time ≤ total (until - from) (λ t. amount_at (problem_of input) starts (from + t) k m.activity)) members
    → energy_of (problem_of input) k members + absent_in input k from until ≤ capacity (problem_of input) k * (until - from)
energy_within input starts k from until members plan resource rising inside each =
    let p = problem_of input in
    let w : ℕ = until - from in
    let f : ℕ → Member → ℕ = λ t m. amount_at p starts (from + t) k m.activity in
    let g : ℕ → ℕ = λ t. absent input (from + t) k in
    let used : (t : ℕ) → t < w → sum_by (f t) members + g t ≤ capacity p k = λ t low.
    omega (
      arith,
      members_total (count p) 0 (amount_at p starts (from + t) k) members (omega arith) (λ j d within. omega arith) inside rising,
      usage_is p starts (from + t) k plan.feasible.each_started,
      plan.fits (from + t) k resource,
    ) in
    omega (
      arith,
      sum_grows (λ m. need p m.activity k * m.time) (λ m. total w (λ t. f t m)) members each,
      sums_turned w f members,
      total_plus w (λ t. sum_by (f t) members) g,
      total_limit w (λ t. sum_by (f t) members + g t) (capacity p k) used,
    )

-- two terms are part of a sum
total_pair : (n : ℕ) (f : ℕ → ℕ) (i j : ℕ) → i ≢ j → i < n → j < n → f i + f j ≤ total n f
total_pair zero f i j apart one other = absurd (omega (arith, one))
total_pair (suc n) f i j apart one other = elim (cases_eq i n) [
  | inl last ↦ omega (arith, ap f last, total_above n f j (omega (arith, other, apart, last)))
  | inr before ↦ elim (cases_eq j n) [
    | inl last ↦ omega (arith, ap f last, total_above n f i (omega (arith, one, before)))
    | inr too ↦ omega (arith, total_pair n f i j apart (omega (arith, one, before)) (omega (arith, other, too)))
  ]
]

-- two activities that both run at an instant need no more than there is
both_at : (p : Problem) (starts : List ℕ) (k i j t : ℕ) → IsFeasible p starts → k < length p.capacities → i ≢ j → i < count p → j < count p
    → get_or starts i 0 ≤ t → t < get_or starts i 0 + duration p i → get_or starts j 0 ≤ t → t < get_or starts j 0 + duration p j
    → need p i k + need p j k ≤ capacity p k
both_at p starts k i j t feasible resource apart one other i_from i_until j_from j_until =
    omega (
      arith,
      amount_during p t k i (get_or starts i 0) i_from i_until,
      amount_during p t k j (get_or starts j 0) j_from j_until,
      total_pair (count p) (amount_at p starts t k) i j apart one other,
      usage_is p starts t k feasible.each_started,
      feasible.capacities t k resource,
    )

-- two activities that overlap need no more than there is
pub overlap_within : (p : Problem) (starts : List ℕ) (k i j : ℕ) → IsFeasible p starts → k < length p.capacities → i ≢ j → i < count p → j < count p
    → 0 < duration p i → 0 < duration p j → get_or starts j 0 < get_or starts i 0 + duration p i → get_or starts i 0 < get_or starts j 0 + duration p j
    → need p i k + need p j k ≤ capacity p k
overlap_within p starts k i j feasible resource apart one other i_lasts j_lasts before after = elim (cases_lt (get_or starts i 0) (get_or starts j 0)) [
  | inl first ↦ both_at p starts k i j (get_or starts j 0) feasible resource apart one other (omega (arith, first)) before (omega arith) (omega (arith, j_lasts))
  | inr second ↦ both_at p starts k i j (get_or starts i 0) feasible resource apart one other (omega arith) (omega (arith, i_lasts)) (omega (arith, second)) after
]
