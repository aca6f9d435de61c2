-- Counts of working days, and the working days of instants.
use Rattle.std.proofs.Common.{◌≡◌, ℕ, zero, suc, ◌+◌, ◌-◌, ◌<◌, ◌≤◌, ◌⊎◌, inl, inr, Bool, true, false, nat_lt, sym, ◌∙◌, ap, arith, pos, negsuc, ℤ, ◌+ℤ◌, ◌-ℤ◌, ◌≤ℤ◌}
use Rattle.std.proofs.lemmas.Bool.{cases_lt, cases_Bool, lt-ltb, le-ltb}
use Rattle.jiff_core.specs.Date.{epoch_day}
use Rattle.jiff_core.specs.declared.civil.date.Date.{Date}
use Rattle.jiff_core.proofs.SignedLemmas.{signed_arith}
use Rattle.plan_calendar.specs.WorkingDay.{Workdays, IsWorkingDay, IsBeyond, is_working, working_days, one_if}
use Rattle.plan_calendar.proofs.IndexLemmas.{days_more}
use Rattle.plan_weekdates.specs.Instants.{days_before, not_negative, working_before}
use Rattle.plan_weekdates.proofs.DayLemmas.{later_date}

-- ---- counts

rises : (c : Workdays) (day : ℤ) (n m : ℕ) → working_days c day n ≤ working_days c day (n + m)
rises c day n zero =
    let e : working_days c day (n + 0) ≡ working_days c day n = ap (working_days c day) (omega arith) in
    omega (arith, e)
rises c day n (suc m) =
    let e : working_days c day (n + suc m) ≡ working_days c day (n + m) + one_if (is_working c (day +ℤ pos (n + m))) =
    ap (working_days c day) (omega arith) ∙ days_more c day (n + m) in
    let h = rises c day n m in
    omega (arith, e, h)

-- no more working days are among fewer days
pub at_most : (c : Workdays) (day : ℤ) (n m : ℕ) → n ≤ m → working_days c day n ≤ working_days c day m
at_most c day n m fewer =
    let e : working_days c day m ≡ working_days c day (n + (m - n)) = ap (working_days c day) (omega (arith, fewer)) in
    let h = rises c day n (m - n) in
    omega (arith, e, h)

-- a working day counts among more days
pub counts : (c : Workdays) (day : ℤ) (n m : ℕ) → is_working c (day +ℤ pos n) ≡ true → n < m → working_days c day n < working_days c day m
counts c day n m working more =
    let e : working_days c day (suc n) ≡ working_days c day n + 1 = days_more c day n ∙ ap (λ w. working_days c day n + one_if w) working in
    let h = at_most c day (suc n) m (omega (arith, more)) in
    omega (arith, e, h)

-- there are at most as many working days as days
pub few : (c : Workdays) (day : ℤ) (n : ℕ) → working_days c day n ≤ n
unfolding working_days
few c day zero = omega arith
few c day (suc n) =
    let h = few c day n in
    let bit : (m : Bool) → one_if m ≤ 1 = λ m. elim m as (λ b. one_if b ≤ 1) [ true ↦ omega arith | false ↦ omega arith ] in
    let b = bit (is_working c (day +ℤ pos n)) in
    omega (arith, h, b)

-- ---- the working day of an instant

-- a working day that counts among some days, with exactly t working days before it
record IsReached (c : Workdays) (day : ℤ) (n t : ℕ) : Type 0 where
  place : ℕ
  among : place < n
  working : is_working c (day +ℤ pos place) ≡ true
  before : working_days c day place ≡ t

-- the same among one day more
reached_more : (c : Workdays) (day : ℤ) (n t : ℕ) → t < working_days c day (suc n) → (t < working_days c day n → IsReached c day n t) → IsReached c day (suc n) t
reached_more c day n t less others = by_count (cases_lt t (working_days c day n)) (cases_Bool (is_working c (day +ℤ pos n)))
  where
    by_count : (t < working_days c day n) ⊎ (working_days c day n ≤ t) → (is_working c (day +ℤ pos n) ≡ true) ⊎ (is_working c (day +ℤ pos n) ≡ false) → IsReached c day (suc n) t
    by_count (inl fewer) work =
        let h = others fewer in
        record { place = h.place; among = omega (arith, h.among); working = h.working; before = h.before }
    by_count (inr most) (inl working) =
        let e : working_days c day (suc n) ≡ working_days c day n + 1 = days_more c day n ∙ ap (λ w. working_days c day n + one_if w) working in
        record { place = n; among = omega arith; working = working; before = omega (arith, e, less, most) }
    by_count (inr most) (inr idle) =
        let e : working_days c day (suc n) ≡ working_days c day n + 0 = days_more c day n ∙ ap (λ w. working_days c day n + one_if w) idle in
        absurd (omega (arith, e, less, most))

reached : (c : Workdays) (day : ℤ) (n t : ℕ) → t < working_days c day n → IsReached c day n t
reached c day zero t less =
    let h = few c day zero in
    absurd (omega (arith, less, h))
reached c day (suc n) t less = reached_more c day n t less (λ fewer. reached c day n t fewer)

-- two tests that agree
same_tests : (a b c d : ℕ) → (a < b → c < d) → (b ≤ a → d ≤ c) → nat_lt a b ≡ nat_lt c d
same_tests a b c d up down = by_order (cases_lt a b)
  where
    by_order : (a < b) ⊎ (b ≤ a) → nat_lt a b ≡ nat_lt c d
    by_order (inl less) = lt-ltb a b less ∙ sym (lt-ltb c d (up less))
    by_order (inr more) = le-ltb a b more ∙ sym (le-ltb c d (down more))

-- the working day of an instant is among some days exactly if more working days are
pub day_within : (c : Workdays) (t days place start : ℕ) (date : Date) → IsWorkingDay c t date → epoch_day date +ℤ pos 4371587 ≡ pos place
    → epoch_day c.start +ℤ pos 4371587 ≡ pos start → nat_lt place (start + days) ≡ nat_lt t (working_days c (epoch_day c.start) days)
day_within c t days place start date day at from =
    let after = day.after in
    let before = day.before in
    let same : place ≡ start + day.days = omega (arith, signed_arith, at, from, after) in
    let working : is_working c (epoch_day c.start +ℤ pos day.days) ≡ true = ap (is_working c) (sym day.after) ∙ day.working in
    same_tests place (start + days) t (working_days c (epoch_day c.start) days)
    (λ less. let h = counts c (epoch_day c.start) day.days days working (omega (arith, less, same)) in omega (arith, h, before))
    (λ more. let h = at_most c (epoch_day c.start) days day.days (omega (arith, more, same)) in omega (arith, h, before))

-- if an instant has no working day, no more working days are among days that have dates
pub none_within : (c : Workdays) (t days : ℕ) → IsBeyond c t → (epoch_day c.start +ℤ pos days) ≤ℤ pos 2932897
    → false ≡ nat_lt t (working_days c (epoch_day c.start) days)
none_within c t days beyond within = by_order (cases_lt t (working_days c (epoch_day c.start) days))
  where
    by_order : (t < working_days c (epoch_day c.start) days) ⊎ (working_days c (epoch_day c.start) days ≤ t) → false ≡ nat_lt t (working_days c (epoch_day c.start) days)
    by_order (inr most) = sym (le-ltb t (working_days c (epoch_day c.start) days) most)
    by_order (inl less) =
        let found = reached c (epoch_day c.start) days t less in
        let among = found.among in
        let later = later_date c.start found.place (omega (arith, signed_arith, among, within)) in
        absurd (beyond later.0 (record {
          days = found.place;
          after = later.1;
          working = ap (is_working c) later.1 ∙ found.working;
          before = found.before;
        }))

-- the days before a day, by their numbers from -9999-01-01 on
days_is : (day first : ℤ) (place start : ℕ) → day +ℤ pos 4371587 ≡ pos place → first +ℤ pos 4371587 ≡ pos start → place - start ≡ days_before first day
days_is day first place start at from = by_order (cases_lt place start)
  where
    by_order : (place < start) ⊎ (start ≤ place) → place - start ≡ days_before first day
    by_order (inl less) =
        let e : day -ℤ first ≡ negsuc (start - place - 1) = omega (arith, signed_arith, at, from, less) in
        let none : place - start ≡ 0 = omega (arith, less) in
        none ∙ sym (ap not_negative e)
    by_order (inr more) =
        let e : day -ℤ first ≡ pos (place - start) = omega (arith, signed_arith, at, from, more) in
        sym (ap not_negative e)

pub before_is : (c : Workdays) (day : ℤ) (place start count : ℕ) → count ≡ working_days c (epoch_day c.start) (place - start)
    → epoch_day c.start +ℤ pos 4371587 ≡ pos start → day +ℤ pos 4371587 ≡ pos place → count ≡ working_before c day
unfolding working_before
before_is c day place start count is from at =
    is ∙ ap (working_days c (epoch_day c.start)) (days_is day (epoch_day c.start) place start at from)
