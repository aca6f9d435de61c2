-- The arcs of rows of successors: they are within the limits, all different, and those that the
-- rows contain.
use Rattle.std.proofs.Common.{◌≡◌, ◌≢◌, ℕ, zero, suc, ◌+◌, ◌-◌, ◌≤◌, ◌<◌, ◌⊎◌, inl, inr, Bool, true, false, List, [], ◌∷◌, ◌++◌, Some, length, take, get_or, refl, sym, ap, ◌∙◌, subst, append_assoc, arith, Vec}
use Rattle.std.specs.Prelude.{nat_eq, slice_get, Contains}
use Rattle.std.specs.List.{AllByRecursion, IsDistinct}
use Rattle.std.specs.declared.alloc.Global.{Global}
use Rattle.std.proofs.lemmas.Bool.{eq-eqb}
use Rattle.std.proofs.lemmas.List.{length-map, length-replicate, length-take-le, take_more}
use Rattle.std.proofs.lemmas.List.Elements.{All-from_recursion, All-replicate, All-contains, Contains-append_left, Contains-append_right, Contains-append_cases}
use Rattle.plan_net.specs.Network.{Net, unlagged}
use Rattle.plan_net.specs.Limits.{HasGoodSize, HasGoodDurations, IsGoodArc, IsWithinLimits}
use Rattle.plan_net.specs.Successors.{arcs_from, arcs_of_rows, IsRow, AreRows, rows_in}
use Rattle.plan_net.specs.Indexed.{row_at}
use Rattle.plan_net.specs.Rows.{HoldsOnce, AreBeginnings, AreNumbersOfRows, AreTurned}
use Rattle.plan_net.specs.declared.limits.TheConstants.{LONGEST_LAG}
use Rattle.plan_net.proofs.LagLemmas.{Contains-cons_cases, Contains-behind, Contains-front}
use Rattle.plan_net.proofs.PushLemmas.{HoldsOnce-rising}

all_along : {A : Type 0} (P Q : A → Type 0) → ((x : A) → P x → Q x) → (xs : List A) → AllByRecursion P xs → AllByRecursion Q xs
all_along P Q f [] h = tt
all_along P Q f (x ∷ xs) h = (f x h.0, all_along P Q f xs h.1)

all_append : {A : Type 0} (P : A → Type 0) (xs ys : List A) → AllByRecursion P xs → AllByRecursion P ys → AllByRecursion P (xs ++ ys)
all_append P [] ys h k = k
all_append P (x ∷ xs) ys h k = (h.0, all_append P xs ys h.1 k)

all_get : {A : Type 0} (P : A → Type 0) (xs : List A) (k : ℕ) (x : A) → AllByRecursion P xs → slice_get xs k ≡ Some x → P x
all_get P [] k x h e = absurd (cc)
all_get P (y ∷ xs) zero x h e = let same : y ≡ x = cc in subst P same h.0
all_get P (y ∷ xs) (suc k) x h e = all_get P xs k x h.1 e

-- ---- no arc occurs twice

abbrev NoRepeat : List (ℕ × ℕ) → Type 0
NoRepeat [] = Unit {0}
NoRepeat (arc ∷ arcs) = AllByRecursion (λ other. other ≢ arc) arcs × NoRepeat arcs

no_earlier : (arcs : List (ℕ × ℕ)) (k : ℕ) (arc : ℕ × ℕ) → NoRepeat arcs → slice_get arcs k ≡ Some arc → Contains (take k arcs) arc → ⊥
no_earlier [] k arc h e earlier = absurd (cc)
no_earlier (first ∷ arcs) zero arc h e (m, below, is) = absurd (omega (arith, below))
no_earlier (first ∷ arcs) (suc k) arc h e (zero, below, is) = all_get (λ other. other ≢ first) arcs k arc h.0 e (sym is)
no_earlier (first ∷ arcs) (suc k) arc h e (suc m, below, is) = no_earlier arcs k arc h.1 e (m, omega (arith, below), is)

no_repeat-append : (xs ys : List (ℕ × ℕ)) → NoRepeat xs → NoRepeat ys → AllByRecursion (λ x. AllByRecursion (λ y. y ≢ x) ys) xs → NoRepeat (xs ++ ys)
no_repeat-append [] ys h k apart = k
no_repeat-append (x ∷ xs) ys h k apart = (all_append (λ y. y ≢ x) xs ys h.0 apart.0, no_repeat-append xs ys h.1 k apart.1)

not_both : (b : Bool) → b ≡ true → b ≡ false → ⊥
not_both true p q = cc
not_both false p q = cc

other_target : (i x : ℕ) (row : List ℕ) → AllByRecursion (λ y. nat_eq x y ≡ false) row → AllByRecursion (λ (arc : ℕ × ℕ). arc ≢ (i, x)) (arcs_from i row)
other_target i x [] h = tt
other_target i x (y ∷ row) h =
    let differs : (i, y) ≢ (i, x) = λ e. not_both (nat_eq x y) (eq-eqb x y (sym (ap (λ (arc : ℕ × ℕ). arc.1) e))) h.0 in
    (differs, other_target i x row h.1)

row_repeats_none : (i : ℕ) (row : List ℕ) → IsDistinct nat_eq row → NoRepeat (arcs_from i row)
unfolding IsDistinct
row_repeats_none i [] h = tt
row_repeats_none i (x ∷ row) h = (other_target i x row h.0, row_repeats_none i row h.1)

all_from : (P : ℕ × ℕ → Type 0) (i : ℕ) → ((j : ℕ) → P (i, j)) → (row : List ℕ) → AllByRecursion P (arcs_from i row)
all_from P i f [] = tt
all_from P i f (j ∷ row) = (f j, all_from P i f row)

-- the arcs of later rows begin at later activities
later_sources : (low i : ℕ) (rows : List (List ℕ)) → low ≤ i → AllByRecursion (λ (arc : ℕ × ℕ). low ≤ arc.0) (arcs_of_rows i rows)
later_sources low i [] below = tt
later_sources low i (row ∷ rows) below =
    all_append (λ (arc : ℕ × ℕ). low ≤ arc.0) (arcs_from i row) (arcs_of_rows (i + 1) rows)
    (all_from (λ (arc : ℕ × ℕ). low ≤ arc.0) i (λ j. below) row)
    (later_sources low (i + 1) rows (omega (arith, below)))

rows_repeat_none : (n i : ℕ) (rows : List (List ℕ)) → AllByRecursion (IsRow n) rows → NoRepeat (arcs_of_rows i rows)
rows_repeat_none n i [] h = tt
rows_repeat_none n i (row ∷ rows) h =
    let later = later_sources (i + 1) (i + 1) rows (omega arith) in
    let apart : (j : ℕ) → AllByRecursion (λ (y : ℕ × ℕ). y ≢ (i, j)) (arcs_of_rows (i + 1) rows) =
    λ j. all_along (λ (y : ℕ × ℕ). i + 1 ≤ y.0) (λ (y : ℕ × ℕ). y ≢ (i, j)) (λ y from e.
    let same = ap (λ (arc : ℕ × ℕ). arc.0) e in
    absurd (omega (arith, from, same))) (arcs_of_rows (i + 1) rows) later in
    no_repeat-append (arcs_from i row) (arcs_of_rows (i + 1) rows) (row_repeats_none i row h.0.1) (rows_repeat_none n (i + 1) rows h.1)
    (all_from (λ (x : ℕ × ℕ). AllByRecursion (λ (y : ℕ × ℕ). y ≢ x) (arcs_of_rows (i + 1) rows)) i apart row)

-- ---- both ends of each arc are activities

abbrev IsInside : ℕ → ℕ × ℕ → Type 0
IsInside n arc = ((1 ≤ arc.0) × (arc.0 ≤ n)) × ((1 ≤ arc.1) × (arc.1 ≤ n))

row_inside : (n i : ℕ) (row : List ℕ) → 1 ≤ i → i ≤ n → AllByRecursion (λ j. (1 ≤ j) × (j ≤ n)) row → AllByRecursion (IsInside n) (arcs_from i row)
row_inside n i [] low high h = tt
row_inside n i (j ∷ row) low high h = (((low, high), h.0), row_inside n i row low high h.1)

rows_inside : (n i : ℕ) (rows : List (List ℕ)) → 1 ≤ i → i + length rows ≤ n + 1 → AllByRecursion (IsRow n) rows → AllByRecursion (IsInside n) (arcs_of_rows i rows)
rows_inside n i [] low high h = tt
rows_inside n i (row ∷ rows) low high h =
    all_append (IsInside n) (arcs_from i row) (arcs_of_rows (i + 1) rows)
    (row_inside n i row low (omega (arith, high)) h.0.0)
    (rows_inside n (i + 1) rows (omega (arith, low)) (omega (arith, high)) h.1)

-- the network of good durations and of rows is within the limits
pub IsWithinLimits-rows : (durations : List ℕ) (rows : List (List ℕ)) → HasGoodSize (unlagged durations []) →
    HasGoodDurations (unlagged durations []) → AreRows (length durations) rows →
    IsWithinLimits (unlagged durations (arcs_of_rows 1 rows))
IsWithinLimits-rows durations rows size good are = record {
  size = size;
  durations = good;
  arcs = All-from_recursion (IsGoodArc net) arcs (rows_inside (length durations) 1 rows (omega arith) (omega (arith, are.whole)) are.each);
  new_arcs = λ k within arc. no_earlier arcs k arc (rows_repeat_none (length durations) 1 rows are.each);
  lags = (length-replicate (length arcs) 0, All-replicate (λ w. w ≤ LONGEST_LAG) (length arcs) 0 (omega arith));
} where
  arcs : List (ℕ × ℕ)
  arcs = arcs_of_rows 1 rows

  net : Net
  net = unlagged durations arcs

-- ---- the arcs are those that the rows name

-- an arc from an activity to some of its row
from_row : (i h : ℕ) (row : List ℕ) (j : ℕ) → Contains (arcs_from i row) (h, j) → (h ≡ i) × Contains row j
from_row i h [] j has = absurd (let none : has.0 < 0 = has.1 in omega (arith, none))
from_row i h (x ∷ row) j has = by_case (λ behind. from_row i h row j behind) (Contains-cons_cases (i, x) (h, j) (arcs_from i row) has) where
  by_case : (Contains (arcs_from i row) (h, j) → (h ≡ i) × Contains row j) → ◌≡◌ {A = ℕ × ℕ} (i, x) (h, j) ⊎ Contains (arcs_from i row) (h, j) → (h ≡ i) × Contains (x ∷ row) j
  by_case others (inl same) = (sym (ap (λ (arc : ℕ × ℕ). arc.0) same), subst (Contains (x ∷ row)) (ap (λ (arc : ℕ × ℕ). arc.1) same) (Contains-front x row))
  by_case others (inr behind) = let rest = others behind in (rest.0, Contains-behind x j row rest.1)

in_row : (i : ℕ) (row : List ℕ) (j : ℕ) → Contains row j → Contains (arcs_from i row) (i, j)
in_row i [] j has = absurd (let none : has.0 < 0 = has.1 in omega (arith, none))
in_row i (x ∷ row) j has = by_case (λ behind. in_row i row j behind) (Contains-cons_cases x j row has) where
  by_case : (Contains row j → Contains (arcs_from i row) (i, j)) → (x ≡ j) ⊎ Contains row j → Contains (arcs_from i (x ∷ row)) (i, j)
  by_case others (inl same) = subst (λ (y : ℕ). Contains (arcs_from i (x ∷ row)) (i, y)) same (Contains-front (i, x) (arcs_from i row))
  by_case others (inr behind) = Contains-behind (i, x) (i, j) (arcs_from i row) (others behind)

-- an arc of the rows from i on is in the row of its first activity
pub arc_in_row : (i : ℕ) (lists : List (Vec ℕ Global)) (h j : ℕ) → Contains (arcs_of_rows i (rows_in lists)) (h, j) → (i ≤ h) × (h < i + length lists) × Contains (row_at lists (h - i)) j
arc_in_row i [] h j has = absurd (let none : has.0 < 0 = has.1 in omega (arith, none))
arc_in_row i (list ∷ lists) h j has = by_case (λ later. arc_in_row (i + 1) lists h j later) (Contains-append_cases (arcs_from i list.items) (arcs_of_rows (i + 1) (rows_in lists)) (h, j) has) where
  by_case : (Contains (arcs_of_rows (i + 1) (rows_in lists)) (h, j) → (i + 1 ≤ h) × (h < i + 1 + length lists) × Contains (row_at lists (h - (i + 1))) j)
      → Contains (arcs_from i list.items) (h, j) ⊎ Contains (arcs_of_rows (i + 1) (rows_in lists)) (h, j) → (i ≤ h) × (h < i + length (list ∷ lists)) × Contains (row_at (list ∷ lists) (h - i)) j
  by_case others (inl here) =
      let found = from_row i h list.items j here in
      let first : 0 ≡ h - i = omega (arith, found.0) in
      (omega (arith, found.0), omega (arith, found.0), subst (λ (k : ℕ). Contains (row_at (list ∷ lists) k) j) first found.1)
  by_case others (inr later) =
      let found = others later in
      let next : suc (h - (i + 1)) ≡ h - i = omega (arith, found.0) in
      (omega (arith, found.0), omega (arith, found.1), subst (λ (k : ℕ). Contains (row_at (list ∷ lists) k) j) next found.2)

-- each entry of a row is an arc
pub row_in_arcs : (i : ℕ) (lists : List (Vec ℕ Global)) (k j : ℕ) → Contains (row_at lists k) j → Contains (arcs_of_rows i (rows_in lists)) (i + k, j)
row_in_arcs i [] k j has = absurd (let none : has.0 < 0 = has.1 in omega (arith, none))
row_in_arcs i (list ∷ lists) zero j has =
    let same : i ≡ i + 0 = omega arith in
    Contains-append_left (arcs_from i list.items) (arcs_of_rows (i + 1) (rows_in lists)) (i + 0, j) (subst (λ (h : ℕ). Contains (arcs_from i list.items) (h, j)) same (in_row i list.items j has))
row_in_arcs i (list ∷ lists) (suc k) j has =
    let same : i + 1 + k ≡ i + suc k = omega arith in
    Contains-append_right (arcs_from i list.items) (arcs_of_rows (i + 1) (rows_in lists)) (i + suc k, j)
    (subst (λ (h : ℕ). Contains (arcs_of_rows (i + 1) (rows_in lists)) (h, j)) same
    (row_in_arcs (i + 1) lists k j has))

-- ---- the rows as numbers of rows

other_places : (x : ℕ) (row : List ℕ) (b : ℕ) → AllByRecursion (λ y. nat_eq x y ≡ false) row → b < length row → x ≢ get_or row b 0
other_places x [] b h within same = absurd (omega (arith, within))
other_places x (y ∷ row) zero h within same = not_both (nat_eq x y) (eq-eqb x y same) h.0
other_places x (y ∷ row) (suc b) h within same = other_places x row b h.1 (omega (arith, within)) same

HoldsOnce-distinct : (row : List ℕ) → IsDistinct nat_eq row → HoldsOnce row
unfolding IsDistinct
HoldsOnce-distinct [] h a b lower within = absurd (omega (arith, within))
HoldsOnce-distinct (x ∷ row) h zero zero lower within = absurd (omega (arith, lower))
HoldsOnce-distinct (x ∷ row) h zero (suc b) lower within = other_places x row b h.0 (omega (arith, within))
HoldsOnce-distinct (x ∷ row) h (suc a) zero lower within = absurd (omega (arith, lower))
HoldsOnce-distinct (x ∷ row) h (suc a) (suc b) lower within = HoldsOnce-distinct row h.1 a b (omega (arith, lower)) (omega (arith, within))

-- the row at a place is a row, or empty
row_is : (n : ℕ) (lists : List (Vec ℕ Global)) (k : ℕ) → AllByRecursion (IsRow n) (rows_in lists) → IsRow n (row_at lists k)
unfolding IsDistinct
row_is n [] k h = (tt, tt)
row_is n (list ∷ lists) zero h = h.0
row_is n (list ∷ lists) (suc k) h = row_is n lists k h.1

pub AreNumbersOfRows-rows : (n : ℕ) (lists : List (Vec ℕ Global)) → AreRows n (rows_in lists) → AreNumbersOfRows lists
AreNumbersOfRows-rows n lists are = record {
  inside = λ k j has. let here = All-contains (λ x. (1 ≤ x) × (x ≤ n)) (row_at lists k) j
      (All-from_recursion (λ x. (1 ≤ x) × (x ≤ n)) (row_at lists k) (row_is n lists k are.each).0) has in
      (here.0, omega (arith, here.1, count_rows lists, are.whole));
  once = λ k. HoldsOnce-distinct (row_at lists k) (row_is n lists k are.each).1;
} where
  count_rows : (ls : List (Vec ℕ Global)) → length (rows_in ls) ≡ length ls
  count_rows ls = length-map ls (λ l. l.items)

-- rows of successors, transposed, are the first activities of their arcs
pub AreBeginnings-rows : (n : ℕ) (lists made : List (Vec ℕ Global)) → AreRows n (rows_in lists) → AreTurned lists (length lists) made → AreBeginnings n (arcs_of_rows 1 (rows_in lists)) made
AreBeginnings-rows n lists made are turned = record {
  whole = turned.whole ∙ sym (length-map lists (λ l. l.items)) ∙ are.whole;
  each = λ k i. (
    λ has.
        let here = ((turned.each k).exact i).0 has in
        let same : 1 + (i - 1) ≡ i = omega (arith, here.0) in
        subst (λ (h : ℕ). Contains (arcs_of_rows 1 (rows_in lists)) (h, k + 1)) same (row_in_arcs 1 lists (i - 1) (k + 1) here.2),
    λ has.
        let here = arc_in_row 1 lists i (k + 1) has in
        ((turned.each k).exact i).1 (here.0, omega (arith, here.1), here.2),
  );
  once = λ k. HoldsOnce-rising (λ i. (1 ≤ i) × (i ≤ length lists) × Contains (row_at lists (i - 1)) (k + 1)) (made_row k) (turned.each k);
} where
  made_row : ℕ → List ℕ
  made_row k = row_at made k

-- ---- one row more

nothing_behind : (arcs : List (ℕ × ℕ)) → arcs ++ [] ≡ arcs
nothing_behind [] = refl
nothing_behind (arc ∷ arcs) = ap (λ (rest : List (ℕ × ℕ)). arc ∷ rest) (nothing_behind arcs)

-- a row that is appended to the rows
pub arcs_of_rows-push : (i : ℕ) (lists : List (Vec ℕ Global)) (list : Vec ℕ Global) →
    arcs_of_rows i (rows_in (lists ++ list ∷ [])) ≡ arcs_of_rows i (rows_in lists)
    ++ arcs_from (i + length lists) list.items
arcs_of_rows-push i [] list =
    let same : i ≡ i + 0 = omega arith in
    subst (λ (h : ℕ). arcs_from i list.items ++ [] ≡ arcs_from h list.items) same (nothing_behind (arcs_from i list.items))
arcs_of_rows-push i (first ∷ lists) list =
    let same : i + 1 + length lists ≡ i + suc (length lists) = omega arith in
    let rest = subst (λ (h : ℕ). arcs_of_rows (i + 1) (rows_in (lists ++ list ∷ [])) ≡ arcs_of_rows (i + 1) (rows_in lists) ++ arcs_from h list.items) same (arcs_of_rows-push (i + 1) lists list) in
    ap (λ (arcs : List (ℕ × ℕ)). arcs_from i first.items ++ arcs) rest
    ∙ sym (append_assoc (arcs_from i first.items) (arcs_of_rows (i + 1) (rows_in lists))
    (arcs_from (i + suc (length lists)) list.items))

-- the first rows and the next one
pub arcs_of_rows-more : (lists : List (Vec ℕ Global)) (k : ℕ) (list : Vec ℕ Global) → k < length lists →
    list ≡ get_or lists k list → arcs_of_rows 1 (rows_in (take (k + 1) lists)) ≡ arcs_of_rows 1
    (rows_in (take k lists)) ++ arcs_from (k + 1) list.items
arcs_of_rows-more lists k list within is =
    let next : take (k + 1) lists ≡ take k lists ++ list ∷ [] = take_more lists k list within ∙ ap (λ (l : Vec ℕ Global). take k lists ++ l ∷ []) (sym is) in
    let below : k ≤ length lists = omega (arith, within) in
    let count : 1 + length (take k lists) ≡ k + 1 = omega (arith, length-take-le k lists below) in
    ap (λ (ls : List (Vec ℕ Global)). arcs_of_rows 1 (rows_in ls)) next
    ∙ subst (λ (h : ℕ). arcs_of_rows 1 (rows_in (take k lists ++ list ∷ [])) ≡ arcs_of_rows 1 (rows_in (take k lists)) ++ arcs_from h list.items) count (arcs_of_rows-push 1 (take k lists) list)
