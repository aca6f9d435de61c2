-- The cells of a chart, defined by instants, agree with a comparison of bounds.
use Rattle.std.proofs.Common.{◌≡◌, ℕ, zero, suc, ◌+◌, ◌*◌, ◌<◌, Bool, true, false, ◌&&◌, ◌||◌, nat_lt, nat_le, List, [], ◌∷◌, length, get_or, ◌++◌, refl, sym, ap, ◌∙◌, arith}
use Rattle.std.specs.List.{list_any, range_with_len}
use Rattle.std.proofs.lemmas.Bool.Decides.{nat_tests}
use Rattle.std.proofs.lemmas.List.{append_assoc}
use Rattle.plan_gantt.specs.Column.{lines_from}
use Rattle.plan_gantt.proofs.ColumnLemmas.{lines_more}
use Rattle.plan_gantt.specs.Chart.{covers, is_occupied, is_marked}
use Rattle.plan_gantt.specs.Overlaps.{have_common, overlaps}
use Rattle.plan_gantt.specs.declared.interval.Interval.{Interval}

or_swap : (a b c d : Bool) → (a || b) || (c || d) ≡ (a || c) || (b || d)
or_swap false false c d = refl
or_swap false true false d = refl
or_swap false true true d = refl
or_swap true b c d = refl

any_or : (f g : ℕ → Bool) (ts : List ℕ) → list_any (λ t. f t || g t) ts ≡ list_any f ts || list_any g ts
any_or f g [] = refl
any_or f g (t ∷ ts) = ap (λ b. (f t || g t) || b) (any_or f g ts) ∙ or_swap (f t) (g t) (list_any f ts) (list_any g ts)

any_false : (ts : List ℕ) → list_any (λ t. false) ts ≡ false
any_false [] = refl
any_false (t ∷ ts) = any_false ts

one_more : (s d from count : ℕ) → (nat_le s from && nat_lt from (s + d)) || have_common s d (from + 1) count ≡ have_common s d from (suc count)
one_more s d from count = grind (arith, nat_tests)

-- one of the `count` instants from `from` on is in the interval exactly if the bounds overlap
one_interval : (v : Interval) (from count : ℕ) → list_any (λ t. covers v t) (range_with_len from count) ≡ overlaps v from count
one_interval v from zero = refl
one_interval v from (suc count) = ap (λ b. covers v from || b) (one_interval v (from + 1) count) ∙ one_more v.start v.duration from count

-- a cell is marked exactly if one of the intervals overlaps it
pub marked_by_bounds : (unit : ℕ) (intervals : List Interval) (cell : ℕ) → is_marked unit intervals cell ≡ list_any (λ v. overlaps v (cell * unit) unit) intervals
unfolding is_marked
marked_by_bounds unit [] cell = any_false (range_with_len (cell * unit) unit)
marked_by_bounds unit (v ∷ intervals) cell =
    any_or (λ t. covers v t) (λ t. is_occupied intervals t) (range_with_len (cell * unit) unit)
    ∙ ap (λ b. b || list_any (λ t. is_occupied intervals t) (range_with_len (cell * unit) unit)) (one_interval v (cell * unit) unit)
    ∙ ap (λ b. overlaps v (cell * unit) unit || b) (marked_by_bounds unit intervals cell)

or_true : (b : Bool) → (b || true) ≡ true
or_true false = refl
or_true true = refl

-- if an entry passes, some entry does
pub found_any : (test : Interval → Bool) (vs : List Interval) (i : ℕ) (d : Interval) → i < length vs → test (get_or vs i d) ≡ true → list_any test vs ≡ true
found_any test [] i d inside e = absurd (omega (arith, inside))
found_any test (v ∷ vs) zero d inside e = ap (λ b. b || list_any test vs) e
found_any test (v ∷ vs) (suc i) d inside e = ap (λ b. test v || b) (found_any test vs i d (omega (arith, inside)) e) ∙ or_true (test v)

-- the next cell follows the cells so far
pub next_cell : (before : List ℕ) (cell : ℕ → List ℕ) (k : ℕ) (old next new : List ℕ) →
    old ≡ before ++ lines_from cell 0 k → next ≡ cell k → new ≡ old ++ next →
    new ≡ before ++ lines_from cell 0 (k + 1)
next_cell before cell k old next new so_far is step =
    let place : k ≡ 0 + k = omega arith in
    step ∙ ap (λ bytes. old ++ bytes) is ∙ ap (λ bytes. bytes ++ cell k) so_far
    ∙ append_assoc before (lines_from cell 0 k) (cell k)
    ∙ ap (λ rest. before ++ rest) (ap (λ j. lines_from cell 0 k ++ cell j) place ∙ sym (lines_more cell 0 k))
