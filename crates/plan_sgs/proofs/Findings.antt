-- The faults of a list of starts: the first overload is at a start, and there is at most one
-- verdict.
use Rattle.std.proofs.Common.{ℕ, zero, suc, ◌≡◌, ◌+◌, ◌-◌, ◌≤◌, ◌<◌, ◌⊎◌, inl, inr, List, length, get_or, Option, Some, None, refl, sym, subst, below_more, arith}
use Rattle.std.proofs.lemmas.Bool.{cases_lt}
use Rattle.std.proofs.lemmas.List.Elements.{All-contains}
use Rattle.plan_sgs.specs.Problem.{Problem, Link, count, duration, capacity, total, usage, all_placed, KeepsArcs, KeepsCapacities}
use Rattle.plan_sgs.specs.Verdicts.{Breaks, IsNoLater, IsFirstBroken, IsOver, IsFirstVerdict}
use Rattle.plan_sgs.specs.Checks.{IsBefore, IsOverAmong, IsOverAnswer}
use Rattle.plan_sgs.specs.declared.verdict.Verdict.{Verdict}
use Rattle.plan_sgs.specs.declared.verdict.Verdict.TheVariants.{Arc, Over, Shift, Active}
use Rattle.plan_sgs.proofs.TotalLemmas.{total_none, total_rise}
use Rattle.plan_sgs.proofs.StartLemmas.{amount_at, amount_rise, amount_first, usage_is}

-- an overload begins at a start
pub over_from_start : (p : Problem) (s : List ℕ) → length s ≡ count p → (u k : ℕ) → IsOver p s u k
    → (i : ℕ) × (i < count p) × (get_or s i 0 ≤ u) × IsOver p s (get_or s i 0) k
over_from_start p s whole zero k over =
    let most : capacity p k < usage p (all_placed s) 0 k = over.more in
    let none : total (count p) (λ i. 0) ≡ 0 = total_none (count p) (λ i. 0) (λ i below. refl) in
    let some = total_rise (count p) (λ i. 0) (amount_at p s 0 k) (omega (arith, most, usage_is p s 0 k whole, none)) in
    let start : get_or s some.0 0 ≡ 0 = amount_first p k some.0 (get_or s some.0 0) some.2 in
    (some.0, some.1, omega (arith, start), subst (λ (x : ℕ). IsOver p s x k) (sym start) over)
over_from_start p s whole (suc u) k over = elim (cases_lt (capacity p k) (usage p (all_placed s) u k)) [
  | inl earlier ↦
      let before = over_from_start p s whole u k (record { inside = over.inside; more = earlier }) in
      (before.0, before.1, omega (arith, before.2), before.3)
  | inr within ↦
      let most : capacity p k < usage p (all_placed s) (suc u) k = over.more in
      let some = total_rise (count p) (amount_at p s u k) (amount_at p s (suc u) k) (omega (arith, most, within, usage_is p s u k whole, usage_is p s (suc u) k whole)) in
      let start : get_or s some.0 0 ≡ suc u = amount_rise p u k some.0 (get_or s some.0 0) some.2 in
      (some.0, some.1, omega (arith, start), subst (λ (x : ℕ). IsOver p s x k) (sym start) over)
]

-- a list without an overload at a start keeps the capacities
pub keeps_at_starts : (p : Problem) (s : List ℕ) → length s ≡ count p → ((i k : ℕ) → i < count p → IsOver p s (get_or s i 0) k → ⊥) → KeepsCapacities p (all_placed s)
keeps_at_starts p s whole none t k inside = elim (cases_lt (capacity p k) (usage p (all_placed s) t k)) [
  | inl more ↦
      let start = over_from_start p s whole t k (record { inside = inside; more = more }) in
      absurd (none start.0 k start.1 start.3)
  | inr within ↦ within
]

-- a list that keeps the capacities has no overload
pub over_is_more : (p : Problem) (s : List ℕ) (t k : ℕ) → KeepsCapacities p (all_placed s) → IsOver p s t k → ⊥
over_is_more p s t k kept over =
    let more : capacity p k < usage p (all_placed s) t k = over.more in
    omega (arith, more, kept t k over.inside)

-- the least overload of the first starts is that of one more if no resource is overloaded at the
-- new start
pub over_among_none : (p : Problem) (s : List ℕ) (n : ℕ) (least : Option (ℕ × ℕ)) → IsOverAmong p s n least → ((k : ℕ) → IsOver p s (get_or s n 0) k → ⊥) → IsOverAmong p s (n + 1) least
over_among_none p s n None among none = λ i k below. below_more (λ h. (q : ℕ) → IsOver p s (get_or s h 0) q → ⊥) n (λ h lower q. among h q lower) none i below k
over_among_none p s n (Some over) among none = (
  among.0,
  among.1,
  among.2,
  λ i k below. below_more
      (λ h. (q : ℕ) → IsOver p s (get_or s h 0) q → over.0 ≤ get_or s h 0) n
      (λ h lower q. among.3 h q lower) (λ q here. absurd (none q here)) i below k,
)

-- it is the same if the new start isn't before it
pub over_among_later : (p : Problem) (s : List ℕ) (n : ℕ) (least : Option (ℕ × ℕ)) → IsOverAmong p s n least → (IsBefore (get_or s n 0) least → ⊥) → IsOverAmong p s (n + 1) least
over_among_later p s n None among later = absurd (later tt)
over_among_later p s n (Some over) among later = (
  among.0,
  among.1,
  among.2,
  λ i k below. below_more
      (λ h. (q : ℕ) → IsOver p s (get_or s h 0) q → over.0 ≤ get_or s h 0) n
      (λ h lower q. among.3 h q lower) (λ q here. at_most (cases_lt (get_or s n 0) over.0)) i below k,
) where
  at_most : (get_or s n 0 < over.0) ⊎ (over.0 ≤ get_or s n 0) → over.0 ≤ get_or s n 0
  at_most (inl before) = absurd (later before)
  at_most (inr order) = order

-- a start before it at which a resource is overloaded is the least
pub over_among_here : (p : Problem) (s : List ℕ) (n k : ℕ) (least : Option (ℕ × ℕ)) → IsOverAmong p s n least → IsBefore (get_or s n 0) least
    → 0 < k → IsOver p s (get_or s n 0) (k - 1) → ((l : ℕ) → IsOver p s (get_or s n 0) l → k - 1 ≤ l) → IsOverAmong p s (n + 1) (Some (get_or s n 0, k))
over_among_here p s n k None among before some over first = (
  some,
  over,
  first,
  λ i q below. below_more (λ h. (l : ℕ) → IsOver p s (get_or s h 0) l →
      get_or s n 0 ≤ get_or s h 0) n (λ h lower l here. absurd (among h l lower here))
      (λ l here. omega arith) i below q,
)
over_among_here p s n k (Some other) among before some over first = (
  some,
  over,
  first,
  λ i q below. below_more (λ h. (l : ℕ) → IsOver p s (get_or s h 0) l →
      get_or s n 0 ≤ get_or s h 0) n (λ h lower l here. omega (arith, before, among.3 h l lower here))
      (λ l here. omega arith) i below q,
)

-- the least overloaded start is the least overloaded instant
pub over_answer : (p : Problem) (s : List ℕ) (least : Option (ℕ × ℕ)) → length s ≡ count p → KeepsArcs p s → IsOverAmong p s (count p) least → IsOverAnswer p s least
over_answer p s None whole arcs among = keeps_at_starts p s whole among
over_answer p s (Some over) whole arcs among = (among.0, record { arcs = arcs; over = among.1; first = first }) where
  first : (u l : ℕ) → IsOver p s u l → IsNoLater over.0 (over.1 - 1) u l
  first u l other =
      let start = over_from_start p s whole u l other in
      let order : over.0 ≤ get_or s start.0 0 = among.3 start.0 l start.1 start.3 in
      elim (cases_lt over.0 u) [
        | inl before ↦ inl before
        | inr after ↦
            let same : over.0 ≡ u = omega (arith, after, order, start.2) in
            inr (same, among.2 l (subst (λ (x : ℕ). IsOver p s x l) (sym same) other))
      ]

-- two pairs, each no later than the other, are equal
pub no_later_once : (i j x y : ℕ) → IsNoLater i j x y → IsNoLater x y i j → (i ≡ x) × (j ≡ y)
no_later_once i j x y (inl a) (inl b) = absurd (omega (arith, a, b))
no_later_once i j x y (inl a) (inr b) = absurd (omega (arith, a, b.0))
no_later_once i j x y (inr a) (inl b) = absurd (omega (arith, a.0, b))
no_later_once i j x y (inr a) (inr b) = (a.0, omega (arith, a.1, b.1))

-- a list with a broken link doesn't keep them all
pub broken_not_kept : (p : Problem) (s : List ℕ) (i j : ℕ) → IsFirstBroken p s i j → KeepsArcs p s → ⊥
broken_not_kept p s i j first kept =
    let a = first.broken.0 in
    let breaks : get_or s a.to 0 < get_or s a.from 0 + duration p a.from + a.lag = first.broken.2 in
    let keeps : get_or s a.from 0 + duration p a.from + a.lag ≤ get_or s a.to 0 =
    All-contains (λ (b : Link). get_or s b.from 0 + duration p b.from + b.lag ≤ get_or s b.to 0) p.links a
    kept first.broken.1 in
    omega (arith, breaks, keeps)

-- the first broken link is no later than any other broken one
pub broken_no_later : (p : Problem) (s : List ℕ) (i j x y : ℕ) → IsFirstBroken p s i j → IsFirstBroken p s x y → IsNoLater i j x y
broken_no_later p s i j x y first other =
    let a = other.broken.0 in
    let order : IsNoLater i j a.from a.to = All-contains (λ (b : Link). Breaks p s b → IsNoLater i j b.from b.to) p.links a first.first other.broken.1 other.broken.2 in
    subst (λ (z : ℕ). IsNoLater i j z y) other.broken.3 (subst (λ (z : ℕ). IsNoLater i j a.from z) other.broken.4 order)

-- at most one verdict is the first one
pub verdict_once : (p : Problem) (s : List ℕ) (v w : Verdict) → IsFirstVerdict p s v → IsFirstVerdict p s w → v ≡ w
verdict_once p s (Arc i j) (Arc x y) a b =
    let same = no_later_once (i - 1) (j - 1) (x - 1) (y - 1) (broken_no_later p s (i - 1) (j - 1) (x - 1) (y - 1) a.2 b.2) (broken_no_later p s (x - 1) (y - 1) (i - 1) (j - 1) b.2 a.2) in
    let e : i ≡ x = omega (arith, same.0, a.0, b.0) in
    let f : j ≡ y = omega (arith, same.1, a.1, b.1) in
    cc
verdict_once p s (Arc i j) (Over t k) a b = absurd (broken_not_kept p s (i - 1) (j - 1) a.2 b.1.arcs)
verdict_once p s (Arc i j) (Shift h) a b = absurd (broken_not_kept p s (i - 1) (j - 1) a.2 b.1.feasible.arcs)
verdict_once p s (Arc i j) Active a b = absurd (broken_not_kept p s (i - 1) (j - 1) a.2 b.feasible.arcs)
verdict_once p s (Over t k) (Arc i j) a b = absurd (broken_not_kept p s (i - 1) (j - 1) b.2 a.1.arcs)
verdict_once p s (Over t k) (Over u l) a b =
    let same = no_later_once t (k - 1) u (l - 1) (a.1.first u (l - 1) b.1.over) (b.1.first t (k - 1) a.1.over) in
    let e : t ≡ u = same.0 in
    let f : k ≡ l = omega (arith, same.1, a.0, b.0) in
    cc
verdict_once p s (Over t k) (Shift h) a b = absurd (over_is_more p s t (k - 1) b.1.feasible.capacities a.1.over)
verdict_once p s (Over t k) Active a b = absurd (over_is_more p s t (k - 1) b.feasible.capacities a.1.over)
verdict_once p s (Shift h) (Arc i j) a b = absurd (broken_not_kept p s (i - 1) (j - 1) b.2 a.1.feasible.arcs)
verdict_once p s (Shift h) (Over t k) a b = absurd (over_is_more p s t (k - 1) a.1.feasible.capacities b.1.over)
verdict_once p s (Shift h) (Shift i) a b =
    let low : h - 1 ≤ i - 1 = a.1.first (i - 1) b.1.shift in
    let high : i - 1 ≤ h - 1 = b.1.first (h - 1) a.1.shift in
    let e : h ≡ i = omega (arith, low, high, a.0, b.0) in
    cc
verdict_once p s (Shift h) Active a b = let has = a.1.shift in absurd (b.no_shift has.other (h - 1) has.inside has.shift has.feasible)
verdict_once p s Active (Arc i j) a b = absurd (broken_not_kept p s (i - 1) (j - 1) b.2 a.feasible.arcs)
verdict_once p s Active (Over t k) a b = absurd (over_is_more p s t (k - 1) a.feasible.capacities b.1.over)
verdict_once p s Active (Shift h) a b = let has = b.1.shift in absurd (a.no_shift has.other (h - 1) has.inside has.shift has.feasible)
verdict_once p s Active Active a b = refl
