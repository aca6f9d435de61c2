-- The working days before a day: its marked days without the holidays among them.
use Rattle.std.proofs.Common.{◌≡◌, ℕ, zero, suc, ◌+◌, ◌<◌, ◌≤◌, ◌⊎◌, inl, inr, Bool, true, false, List, [], ◌∷◌, length, get_or, drop, refl, sym, ◌∙◌, ap, subst, arith, pos, ◌+ℤ◌, ℤ}
use Rattle.std.specs.Prelude.{◌&&◌, ◌||◌, not, if◌then◌else◌}
use Rattle.std.specs.Bool.{nat_lt, nat_eq}
use Rattle.std.specs.List.{All, AllPairs, list_any}
use Rattle.std.proofs.lemmas.Bool.{cases_order}
use Rattle.std.proofs.lemmas.Bool.Decides.{nat_tests}
use Rattle.std.proofs.lemmas.List.{at_drop_more, drop_all}
use Rattle.std.proofs.lemmas.List.Folds.{list_any_none}
use Rattle.jiff_core.specs.Date.{epoch_day}
use Rattle.plan_calendar.specs.WorkingDay.{Workdays, one_if, is_marked, is_holiday, is_working, working_days}
use Rattle.plan_calendar.specs.Weeks.{marked_days}
use Rattle.plan_calendar.specs.DaysOff.{has_index, AreIndices, shifted_by}

abbrev pub AreRising : List ℕ → Type 0
AreRising indices = AllPairs (λ x y. x < y) indices

tail_rising : (i : ℕ) (rest : List ℕ) → AreRising (i ∷ rest) → AreRising rest
tail_rising i rest rising a b d less inside = rising (suc a) (suc b) d (omega (arith, less)) (omega (arith, inside))

head_least : (i : ℕ) (rest : List ℕ) → AreRising (i ∷ rest) → All (λ j. i < j) rest
head_least i rest rising k d inside = rising 0 (suc k) d (omega arith) (omega (arith, inside))

-- the number of indices below n
abbrev pub count_below : List ℕ → ℕ → ℕ
count_below [] n = 0
count_below (i ∷ rest) n = count_below rest n + one_if (nat_lt i n)

count_cons : (i : ℕ) (rest : List ℕ) (n : ℕ) (b : Bool) → nat_lt i n ≡ b → count_below (i ∷ rest) n ≡ count_below rest n + one_if b
count_cons i rest n b same = ap (λ c. count_below rest n + one_if c) same

has_cons : (i : ℕ) (rest : List ℕ) (n : ℕ) (b : Bool) → nat_eq n i ≡ b → has_index (i ∷ rest) n ≡ (b || has_index rest n)
unfolding has_index
has_cons i rest n b same = ap (λ c. c || list_any (nat_eq n) rest) same

less_is : (a b : ℕ) → a < b → nat_lt a b ≡ true
less_is a b less = grind (arith, nat_tests, less)

not_less : (a b : ℕ) → b ≤ a → nat_lt a b ≡ false
not_less a b least = grind (arith, nat_tests, least)

count_none : (indices : List ℕ) (n : ℕ) → All (λ j. n ≤ j) indices → count_below indices n ≡ 0
count_none [] n all = refl
count_none (i ∷ rest) n all =
    let first : n ≤ i = all 0 0 (omega arith) in
    let others = count_none rest n (λ k d inside. all (suc k) d (omega (arith, inside))) in
    let e = count_cons i rest n false (not_less i n first) in
    omega (arith, e, others)

has_none : (indices : List ℕ) (n : ℕ) → All (λ j. n < j) indices → has_index indices n ≡ false
unfolding has_index
has_none indices n all = list_any_none (nat_eq n) indices (λ k d inside.
    let above : n < get_or indices k d = all k d inside in
    grind (arith, nat_tests, above))

-- one more index is below the next number if the number is one of them
count_more : (indices : List ℕ) (n : ℕ) → AreRising indices → count_below indices (suc n) ≡ count_below indices n + one_if (has_index indices n)
unfolding has_index
count_more [] n rising = refl
count_more (i ∷ rest) n rising = by_order (count_more rest n (tail_rising i rest rising)) (cases_order i n)
  where
    by_order : count_below rest (suc n) ≡ count_below rest n + one_if (has_index rest n) → (i ≡ n) ⊎ ((i < n) ⊎ (n < i))
        → count_below (i ∷ rest) (suc n) ≡ count_below (i ∷ rest) n + one_if (has_index (i ∷ rest) n)
    by_order others (inl same) =
        let none : has_index rest n ≡ false = has_none rest n (subst (λ m. All (λ j. m < j) rest) same (head_least i rest rising)) in
        let a = count_cons i rest (suc n) true (less_is i (suc n) (omega (arith, same))) in
        let b = count_cons i rest n false (not_less i n (omega (arith, same))) in
        let c = ap one_if (has_cons i rest n true (grind (arith, nat_tests, same))) in
        let d = ap one_if none in
        omega (arith, others, a, b, c, d)
    by_order others (inr (inl below)) =
        let a = count_cons i rest (suc n) true (less_is i (suc n) (omega (arith, below))) in
        let b = count_cons i rest n true (less_is i n below) in
        let c = ap one_if (has_cons i rest n false (grind (arith, nat_tests, below))) in
        omega (arith, others, a, b, c)
    by_order others (inr (inr above)) =
        let a = count_cons i rest (suc n) false (not_less i (suc n) (omega (arith, above))) in
        let b = count_cons i rest n false (not_less i n (omega (arith, above))) in
        let c = ap one_if (has_cons i rest n false (grind (arith, nat_tests, above))) in
        omega (arith, others, a, b, c)

pub shifted_none : (t : ℕ) → shifted_by [] t ≡ t
unfolding shifted_by
shifted_none t = refl

pub shifted_stop : (i : ℕ) (rest : List ℕ) (t : ℕ) → t < i → shifted_by (i ∷ rest) t ≡ t
unfolding shifted_by
shifted_stop i rest t less = ap (λ b. if b then t else shifted_by rest (suc t)) (less_is t i less)

pub shifted_on : (i : ℕ) (rest : List ℕ) (t : ℕ) → i ≤ t → shifted_by (i ∷ rest) t ≡ shifted_by rest (suc t)
unfolding shifted_by
shifted_on i rest t least = ap (λ b. if b then t else shifted_by rest (suc t)) (not_less t i least)

-- the shifted number isn't one of the indices, and the indices below it are as many as it was shifted by
pub record IsShifted (indices : List ℕ) (t n : ℕ) : Type 0 where
  pub moved : count_below indices n + t ≡ n
  pub free : has_index indices n ≡ false

on_shifted : (i : ℕ) (rest : List ℕ) (t : ℕ) → IsShifted rest (suc t) (shifted_by rest (suc t)) → i ≤ t → IsShifted (i ∷ rest) t (shifted_by (i ∷ rest) t)
on_shifted i rest t others least =
    let above : i < shifted_by rest (suc t) = omega (arith, others.moved, least) in
    let more = count_cons i rest (shifted_by rest (suc t)) true (less_is i (shifted_by rest (suc t)) above) in
    let apart = has_cons i rest (shifted_by rest (suc t)) false (grind (arith, nat_tests, above)) in
    subst (IsShifted (i ∷ rest) t) (sym (shifted_on i rest t least))
    (record { moved = omega (arith, others.moved, more); free = apart ∙ others.free })

all_later : (i : ℕ) (rest : List ℕ) (t : ℕ) → t < i → All (λ j. i < j) rest → All (λ j. t < j) (i ∷ rest)
all_later i rest t above least zero d inside = above
all_later i rest t above least (suc k) d inside =
    let next : i < get_or rest k d = least k d (omega (arith, inside)) in
    omega (arith, above, next)

none_moved : (indices : List ℕ) (t : ℕ) → All (λ j. t < j) indices → count_below indices t + t ≡ t
none_moved indices t all =
    let none = count_none indices t (λ k d inside. omega (arith, all k d inside)) in
    omega (arith, none)

stop_shifted : (i : ℕ) (rest : List ℕ) (t : ℕ) → t < i → All (λ j. t < j) (i ∷ rest) → IsShifted (i ∷ rest) t (shifted_by (i ∷ rest) t)
stop_shifted i rest t above all =
    subst (IsShifted (i ∷ rest) t) (sym (shifted_stop i rest t above))
    (record {
      moved = none_moved (i ∷ rest) t all;
      free = has_none (i ∷ rest) t all;
    })

none_shifted : (t : ℕ) → IsShifted [] t (shifted_by [] t)
unfolding has_index
none_shifted t = record { moved = omega (arith, shifted_none t); free = refl }

pub shifted_is : (indices : List ℕ) (t : ℕ) → AreRising indices → IsShifted indices t (shifted_by indices t)
shifted_is [] t rising = none_shifted t
shifted_is (i ∷ rest) t rising = by_order (shifted_is rest (suc t) (tail_rising i rest rising)) (cases_order i t)
  where
    by_order : IsShifted rest (suc t) (shifted_by rest (suc t)) → (i ≡ t) ⊎ ((i < t) ⊎ (t < i)) → IsShifted (i ∷ rest) t (shifted_by (i ∷ rest) t)
    by_order others (inl same) = on_shifted i rest t others (omega (arith, same))
    by_order others (inr (inl below)) = on_shifted i rest t others (omega (arith, below))
    by_order others (inr (inr above)) = stop_shifted i rest t above (all_later i rest t above (head_least i rest rising))

plus_one : (n : ℕ) → n + 1 ≡ suc n
plus_one n = omega arith

plus_none : (n : ℕ) → n + 0 ≡ n
plus_none n = omega arith

-- the marked days before the next day
marked_more : (marks : List Bool) (day : ℤ) (n : ℕ) → marked_days marks day (suc n) ≡ marked_days marks day n + one_if (is_marked marks (day +ℤ pos n))
unfolding marked_days
marked_more marks day n = refl

-- the working days before the next day
pub days_more : (c : Workdays) (day : ℤ) (n : ℕ) → working_days c day (suc n) ≡ working_days c day n + one_if (is_working c (day +ℤ pos n))
unfolding working_days
days_more c day n = refl

working_more : (c : Workdays) (day : ℤ) (n : ℕ) → working_days c day (suc n) ≡ working_days c day n + one_if (is_marked c.marks (day +ℤ pos n) && not (is_holiday c.holidays (day +ℤ pos n)))
unfolding working_days is_working
working_more c day n = refl

none_before : (c : Workdays) (day : ℤ) (indices : List ℕ) → working_days c day 0 + count_below indices (marked_days c.marks day 0) ≡ marked_days c.marks day 0
unfolding working_days marked_days
none_before c day indices =
    let none = count_none indices 0 (λ k d inside. omega arith) in
    omega (arith, none)

-- a day that is unmarked, marked or a holiday adds up
adds_up : (w v k l m n : ℕ) (marked off : Bool) → w + k ≡ m → n ≡ m + one_if marked → v ≡ w + one_if (marked && not off)
    → (marked ≡ true → l ≡ k + one_if off) → (marked ≡ false → l ≡ k) → v + l ≡ n
adds_up w v k l m n true true before more days on off = omega (arith, before, more, days, on refl)
adds_up w v k l m n true false before more days on off = omega (arith, before, more, days, on refl)
adds_up w v k l m n false h before more days on off = omega (arith, before, more, days, off refl)

-- the working days and the holidays among the marked days
pub counted : (c : Workdays) (indices : List ℕ) → AreRising indices → AreIndices (epoch_day c.start) c.marks c.holidays indices
    → (n : ℕ) → working_days c (epoch_day c.start) n + count_below indices (marked_days c.marks (epoch_day c.start) n) ≡ marked_days c.marks (epoch_day c.start) n
counted c indices rising exact zero = none_before c (epoch_day c.start) indices
counted c indices rising exact (suc n) =
    let start = epoch_day c.start in
    let m = marked_days c.marks start n in
    let more = marked_more c.marks start n in
    let on : is_marked c.marks (start +ℤ pos n) ≡ true → count_below indices (marked_days c.marks start (suc n)) ≡ count_below indices m + one_if (is_holiday c.holidays (start +ℤ pos n)) = λ marked.
    let next : marked_days c.marks start (suc n) ≡ suc m = more ∙ ap (λ b. m + one_if b) marked ∙ plus_one m in
    ap (count_below indices) next ∙ count_more indices m rising ∙ ap (λ b. count_below indices m + one_if b) (exact n marked) in
    let off : is_marked c.marks (start +ℤ pos n) ≡ false → count_below indices (marked_days c.marks start (suc n)) ≡ count_below indices m = λ unmarked.
    ap (count_below indices) (more ∙ ap (λ b. m + one_if b) unmarked ∙ plus_none m) in
    adds_up (working_days c start n) (working_days c start (suc n)) (count_below indices m) (count_below indices (marked_days c.marks start (suc n))) m (marked_days c.marks start (suc n))
    (is_marked c.marks (start +ℤ pos n)) (is_holiday c.holidays (start +ℤ pos n)) (counted c indices rising exact n) more (working_more c start n) on off

-- a marked day whose index isn't that of a holiday is a working day
pub working_at : (c : Workdays) (indices : List ℕ) → AreIndices (epoch_day c.start) c.marks c.holidays indices → (n : ℕ)
    → is_marked c.marks (epoch_day c.start +ℤ pos n) ≡ true → has_index indices (marked_days c.marks (epoch_day c.start) n) ≡ false
    → is_working c (epoch_day c.start +ℤ pos n) ≡ true
unfolding is_working
working_at c indices exact n marked free =
    ap (λ b. b && not (is_holiday c.holidays (epoch_day c.start +ℤ pos n))) marked ∙ ap not (sym (exact n marked) ∙ free)

-- ---- the indices one after the other

pub shifted_more : (indices : List ℕ) (k t i : ℕ) → k < length indices → i ≡ get_or indices k 0 → i ≤ t
    → shifted_by (drop (k + 1) indices) (t + 1) ≡ shifted_by (drop k indices) t
shifted_more indices k t i inside at least =
    let more = at_drop_more (λ rest. shifted_by rest t) indices k 0 inside in
    let on = shifted_on (get_or indices k 0) (drop (k + 1) indices) t (omega (arith, at, least)) in
    ap (shifted_by (drop (k + 1) indices)) (plus_one t) ∙ sym on ∙ sym more

pub shifted_here : (indices : List ℕ) (k t i : ℕ) → k < length indices → i ≡ get_or indices k 0 → t < i → t ≡ shifted_by (drop k indices) t
shifted_here indices k t i inside at less =
    let more = at_drop_more (λ rest. shifted_by rest t) indices k 0 inside in
    sym (more ∙ shifted_stop (get_or indices k 0) (drop (k + 1) indices) t (omega (arith, at, less)))

pub shifted_end : (indices : List ℕ) (k t : ℕ) → length indices ≤ k → t ≡ shifted_by (drop k indices) t
shifted_end indices k t ended = sym (ap (λ rest. shifted_by rest t) (drop_all k indices ended) ∙ shifted_none t)
