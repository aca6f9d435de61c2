-- Marked days, week by week.
use Rattle.std.proofs.Common.{◌≡◌, ℕ, zero, suc, ◌+◌, ◌-◌, ◌*◌, ◌/◌, ◌%◌, ◌<◌, ◌≤◌, Bool, true, false, List, [], ◌∷◌, length, get_or, refl, sym, ◌∙◌, ap, arith, pos, ◌+ℤ◌, ℤ}
use Rattle.std.specs.List.{list_any}
use Rattle.std.proofs.lemmas.Nat.{div-add-mod'}
use Rattle.jiff_core.specs.Calendar.{weekday_number}
use Rattle.jiff_core.proofs.CalendarLemmas.{weekday_number-add}
use Rattle.plan_calendar.specs.WorkingDay.{one_if, is_marked}
use Rattle.plan_calendar.specs.Weeks.{mark_after, marks_before, IsMarkedAfter, marked_days}

mark_weeks : (marks : List Bool) (w m k : ℕ) → mark_after marks w (m * 7 + k) ≡ mark_after marks w k
unfolding mark_after
mark_weeks marks w m k =
    let e : (w + (m * 7 + k)) % 7 ≡ (w + k) % 7 = omega arith in
    ap (λ i. get_or marks i false) e

next : (marks : List Bool) (w n : ℕ) → marks_before marks w (suc n) ≡ marks_before marks w n + one_if (mark_after marks w n)
unfolding marks_before
next marks w n = refl

pub none_before : (marks : List Bool) (w : ℕ) → marks_before marks w 0 ≡ 0
unfolding marks_before
none_before marks w = refl

pub one_more : (marks : List Bool) (w n : ℕ) → marks_before marks w (n + 1) ≡ marks_before marks w n + one_if (mark_after marks w n)
one_more marks w n =
    let e : n + 1 ≡ suc n = omega arith in
    ap (λ k. marks_before marks w k) e ∙ next marks w n

-- one more day, marked or not
pub one_marked : (marks : List Bool) (w n : ℕ) (mark : Bool) → mark ≡ mark_after marks w n → mark ≡ true → marks_before marks w (n + 1) ≡ marks_before marks w n + 1
one_marked marks w n mark same marked = one_more marks w n ∙ ap (λ m. marks_before marks w n + one_if m) (sym same ∙ marked)

pub one_unmarked : (marks : List Bool) (w n : ℕ) (mark : Bool) → mark ≡ mark_after marks w n → mark ≡ false → marks_before marks w (n + 1) ≡ marks_before marks w n
one_unmarked marks w n mark same unmarked =
    let e : marks_before marks w n + 0 ≡ marks_before marks w n = omega arith in
    one_more marks w n ∙ ap (λ m. marks_before marks w n + one_if m) (sym same ∙ unmarked) ∙ e

one_week : (marks : List Bool) (w k : ℕ) → marks_before marks w (7 + k) ≡ marks_before marks w 7 + marks_before marks w k
one_week marks w zero =
    let e = none_before marks w in
    let f : marks_before marks w (7 + 0) ≡ marks_before marks w 7 = refl in
    omega (arith, e, f)
one_week marks w (suc k) =
    let shift : 7 + suc k ≡ suc (7 + k) = omega arith in
    let again : mark_after marks w (1 * 7 + k) ≡ mark_after marks w k = mark_weeks marks w 1 k in
    let same : 1 * 7 + k ≡ 7 + k = omega arith in
    let mark : mark_after marks w (7 + k) ≡ mark_after marks w k = ap (λ i. mark_after marks w i) (sym same) ∙ again in
    let add : (a b c d : ℕ) → a ≡ b + c → a + d ≡ b + (c + d) = λ a b c d e. omega (arith, e) in
    ap (λ i. marks_before marks w i) shift ∙ next marks w (7 + k)
    ∙ ap (λ m. marks_before marks w (7 + k) + one_if m) mark
    ∙ add (marks_before marks w (7 + k)) (marks_before marks w 7) (marks_before marks w k) (one_if (mark_after marks w k)) (one_week marks w k)
    ∙ ap (λ s. marks_before marks w 7 + s) (sym (next marks w k))

-- whole weeks, and the days after them
pub weeks_more : (marks : List Bool) (w m k : ℕ) → marks_before marks w (m * 7 + k) ≡ m * marks_before marks w 7 + marks_before marks w k
weeks_more marks w zero k =
    let e : 0 * 7 + k ≡ k = omega arith in
    let f : (c : ℕ) → c ≡ 0 * marks_before marks w 7 + c = λ c. omega arith in
    ap (λ i. marks_before marks w i) e ∙ f (marks_before marks w k)
weeks_more marks w (suc m) k =
    let e : suc m * 7 + k ≡ 7 + (m * 7 + k) = omega arith in
    let f : (c d : ℕ) → c + (m * c + d) ≡ suc m * c + d = λ c d. grind arith in
    ap (λ i. marks_before marks w i) e ∙ one_week marks w (m * 7 + k)
    ∙ ap (λ s. marks_before marks w 7 + s) (weeks_more marks w m k)
    ∙ f (marks_before marks w 7) (marks_before marks w k)

rises : (marks : List Bool) (w n m : ℕ) → marks_before marks w n ≤ marks_before marks w (n + m)
rises marks w n zero =
    let e : n + 0 ≡ n = omega arith in
    let f : marks_before marks w (n + 0) ≡ marks_before marks w n = ap (λ i. marks_before marks w i) e in
    omega (arith, f)
rises marks w n (suc m) =
    let e : n + suc m ≡ suc (n + m) = omega arith in
    let f : marks_before marks w (n + suc m) ≡ marks_before marks w (n + m) + one_if (mark_after marks w (n + m)) = ap (λ i. marks_before marks w i) e ∙ next marks w (n + m) in
    let h = rises marks w n m in
    omega (arith, f, h)

-- more marked days are before a later day than before a marked one
above : (marks : List Bool) (w a b : ℕ) → mark_after marks w a ≡ true → a < b → marks_before marks w a < marks_before marks w b
above marks w a b marked later =
    let e : b ≡ suc a + (b - suc a) = omega (arith, later) in
    let f : marks_before marks w b ≡ marks_before marks w (suc a + (b - suc a)) = ap (λ i. marks_before marks w i) e in
    let h = rises marks w (suc a) (b - suc a) in
    let g : marks_before marks w (suc a) ≡ marks_before marks w a + 1 = next marks w a ∙ ap (λ m. marks_before marks w a + one_if m) marked in
    omega (arith, f, h, g)

-- one marked day has exactly t before it
pub same_day : (marks : List Bool) (w t a b : ℕ) → IsMarkedAfter marks w t a → IsMarkedAfter marks w t b → a ≡ b
same_day marks w t a b x y =
    let up : a < b → marks_before marks w a < marks_before marks w b = above marks w a b x.marked in
    let down : b < a → marks_before marks w b < marks_before marks w a = above marks w b a y.marked in
    grind (arith, up, down, x.before, y.before)

-- there are at most as many marked days as days
pub at_most_days : (marks : List Bool) (w n : ℕ) → marks_before marks w n ≤ n
at_most_days marks w zero =
    let e = none_before marks w in
    omega (arith, e)
at_most_days marks w (suc n) =
    let e = next marks w n in
    let h = at_most_days marks w n in
    let bit : (m : Bool) → one_if m ≤ 1 = λ m. elim m as (λ b. one_if b ≤ 1) [ true ↦ omega arith | false ↦ omega arith ] in
    let b = bit (mark_after marks w n) in
    omega (arith, e, h, b)

some_mark : (marks : List Bool) → list_any (λ mark. mark) marks ≡ true → (j : ℕ) × (j < length marks) × (get_or marks j false ≡ true)
some_mark [] none = grind (arith, none)
some_mark (true ∷ marks) some = (0, omega arith, refl)
some_mark (false ∷ marks) some =
    let h = some_mark marks some in
    (suc h.0, omega (arith, h.1), h.2)

-- each week has a marked day
pub some_each_week : (marks : List Bool) (w : ℕ) → length marks ≡ 7 → list_any (λ mark. mark) marks ≡ true → w < 7 → 0 < marks_before marks w 7
unfolding mark_after
some_each_week marks w seven some small =
    let h = some_mark marks some in
    let k = (h.0 + 7 - w) % 7 in
    let inside : h.0 < 7 = omega (arith, h.1, seven) in
    let below : k < 7 = omega arith in
    let place : (w + k) % 7 ≡ h.0 = omega (arith, inside, small) in
    let marked : mark_after marks w k ≡ true = ap (λ i. get_or marks i false) place ∙ h.2 in
    let more = above marks w k 7 marked below in
    omega (arith, more)

-- the day after whole weeks
marked_after_weeks : (marks : List Bool) (w t m r k : ℕ) → mark_after marks w k ≡ true → marks_before marks w k ≡ r → t ≡ m * marks_before marks w 7 + r → IsMarkedAfter marks w t (m * 7 + k)
marked_after_weeks marks w t m r k marked before whole = record {
  marked = mark_weeks marks w m k ∙ marked;
  before = weeks_more marks w m k ∙ ap (λ s. m * marks_before marks w 7 + s) before ∙ sym whole;
}

-- the marks by day numbers and from a weekday on
pub mark_by_day : (marks : List Bool) (day : ℤ) (k : ℕ) → is_marked marks (day +ℤ pos k) ≡ mark_after marks (weekday_number day) k
unfolding is_marked mark_after
mark_by_day marks day k = ap (λ i. get_or marks i false) (weekday_number-add day (day +ℤ pos k) k refl)

pub marks_by_day : (marks : List Bool) (day : ℤ) (n : ℕ) → marked_days marks day n ≡ marks_before marks (weekday_number day) n
unfolding marked_days marks_before
marks_by_day marks day zero = refl
marks_by_day marks day (suc n) =
    ap (λ s. s + one_if (is_marked marks (day +ℤ pos n))) (marks_by_day marks day n)
    ∙ ap (λ m. marks_before marks (weekday_number day) n + one_if m) (mark_by_day marks day n)

-- the day after the whole weeks before it
pub marked_by_weeks : (marks : List Bool) (w t each k : ℕ) → each ≡ marks_before marks w 7 → IsMarkedAfter marks w (t % each) k → IsMarkedAfter marks w t (t / each * 7 + k)
marked_by_weeks marks w t each k same found =
    let whole : t ≡ t / each * marks_before marks w 7 + t % each = sym (div-add-mod' t each) ∙ ap (λ c. t / each * c + t % each) same in
    marked_after_weeks marks w t (t / each) (t % each) k found.marked found.before whole

-- the marked days of the whole weeks and of the days after them
pub counted_by_weeks : (marks : List Bool) (w days each rest : ℕ) → each ≡ marks_before marks w 7 → rest ≡ marks_before marks w (days % 7)
    → days / 7 * each + rest ≡ marks_before marks w days
counted_by_weeks marks w days each rest same also =
    ap (λ c. days / 7 * c + rest) same ∙ ap (λ r. days / 7 * marks_before marks w 7 + r) also
    ∙ sym (weeks_more marks w (days / 7) (days % 7)) ∙ ap (λ n. marks_before marks w n) (div-add-mod' days 7)

-- the mark of a day by the day of its week
pub mark_in_week : (marks : List Bool) (w days : ℕ) → mark_after marks w (days % 7) ≡ mark_after marks w days
mark_in_week marks w days = sym (mark_weeks marks w (days / 7) (days % 7)) ∙ ap (λ n. mark_after marks w n) (div-add-mod' days 7)

-- no two marked days have the same number of marked days before them
pub one_marked_day : (marks : List Bool) (day : ℤ) (a b : ℕ) → is_marked marks (day +ℤ pos a) ≡ true → is_marked marks (day +ℤ pos b) ≡ true
    → marked_days marks day a ≡ marked_days marks day b → a ≡ b
one_marked_day marks day a b first second same =
    same_day marks (weekday_number day) (marked_days marks day a) a b
    (record { marked = sym (mark_by_day marks day a) ∙ first; before = sym (marks_by_day marks day a) })
    (record { marked = sym (mark_by_day marks day b) ∙ second; before = sym (marks_by_day marks day b) ∙ sym same })
