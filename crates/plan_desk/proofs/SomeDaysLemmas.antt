-- A schedule has a table of working days, or a day of it is beyond the calendar.
use Rattle.std.proofs.Common.{◌≡◌, ℕ, zero, suc, ◌+◌, ◌-◌, ◌≤◌, ◌<◌, inl, inr, ◌⊎◌, Bool, true, false, List, [], ◌++◌, refl, ◌∙◌, ap, subst, arith, ℤ, pos, negsuc, ◌+ℤ◌}
use Rattle.std.specs.Prelude.{◌&&◌, ◌==◌, ◌-ℤ◌, unsigned_abs, codes}
use Rattle.std.proofs.lemmas.Bool.{both_ways, and_parts, and_from, eqb-true, eq-eqb, cases_order}
use Rattle.jiff_core.specs.Calendar.{IsYear, days_in_month, days_from_civil}
use Rattle.jiff_core.specs.Date.{epoch_day}
use Rattle.jiff_core.specs.declared.civil.date.Date.{Date}
use Rattle.jiff_core.proofs.SignedLemmas.{signed_arith, one_part}
use Rattle.jiff.specs.Words.{date_text}
use Rattle.plan_net.specs.Network.{Net, count_of}
use Rattle.plan_shop.specs.Shop.{JobShop, count_steps}
use Rattle.plan_calendar.specs.WorkingDay.{Workdays, IsWorkingDay, IsBeyond, is_working, working_days}
use Rattle.plan_gantt.specs.Charts.{activity_interval}
use Rattle.plan_gantt.specs.Column.{column, number_column}
use Rattle.plan_gantt.specs.CalendarTable.{IsDaysText, AreDaysLines, ShowsBeyond, HasDayBeyond, activity_days_heading, IsCalendarTable, HasActivityBeyond}
use Rattle.plan_gantt.specs.ShopCharts.{IsShopCalendarTable, HasStepBeyond, step_front, step_interval, step_days_heading}
use Rattle.plan_gantt.specs.declared.interval.Interval.{Interval}
use Rattle.plan_rows.specs.World.{Text}
use Rattle.plan_rows.specs.Names.{is_from_to}
use Rattle.plan_desk.proofs.SomeFileLemmas.{from_to, to_from}

-- ---- days

-- a fact holds, or it doesn't
abbrev Decided : Type 0 → Type 0
Decided P = P ⊎ (P → ⊥)

-- a number below a limit has a property, or none has
search : (P : ℕ → Type 0) → ((n : ℕ) → Decided (P n)) → (limit : ℕ) → ((n : ℕ) × P n) ⊎ ((n : ℕ) → n < limit → P n → ⊥)
search P decide zero = inr (λ n less holds. absurd (omega (arith, less)))
search P decide (suc limit) = by_rest (search P decide limit) (decide limit)
  where
    by_rest : ((n : ℕ) × P n) ⊎ ((n : ℕ) → n < limit → P n → ⊥) → Decided (P limit) → ((n : ℕ) × P n) ⊎ ((n : ℕ) → n < suc limit → P n → ⊥)
    by_rest (inl found) last = inl found
    by_rest (inr none) (inl holds) = inl (limit, holds)
    by_rest (inr none) (inr fails) = inr (λ n less holds. at n less holds (cases_order n limit))
      where
        at : (n : ℕ) → n < suc limit → P n → (n ≡ limit) ⊎ ((n < limit) ⊎ (limit < n)) → ⊥
        at n less holds (inl same) = fails (subst P same holds)
        at n less holds (inr (inl below)) = none n below holds
        at n less holds (inr (inr above)) = absurd (omega (arith, less, above))

decide_test : (b : Bool) (P : Type 0) → (b ≡ true → P) → (P → b ≡ true) → Decided P
decide_test true P holds test = inl (holds refl)
decide_test false P holds test = inr (λ p. both_ways false refl (test p))

-- the number of days between two days
abbrev days_to : ℤ → ℤ → ℕ
days_to start day = unsigned_abs (day -ℤ start)

far : (start day : ℤ) (n : ℕ) → day ≡ start +ℤ pos n → days_to start day ≡ n
far start day n e = omega (arith, signed_arith, one_part (day -ℤ start), e)

gap : (start day : ℤ) → unsigned_abs (day -ℤ (start +ℤ pos (days_to start day))) ≡ 0 → day ≡ start +ℤ pos (days_to start day)
gap start day e = omega (arith, signed_arith, e)

no_gap : (start day : ℤ) (n : ℕ) → day ≡ start +ℤ pos n → unsigned_abs (day -ℤ (start +ℤ pos (days_to start day))) ≡ 0
no_gap start day n e =
    omega (arith, signed_arith, one_part (day -ℤ (start +ℤ pos (days_to start day))), far start day n e, e)

-- a working day with exactly t working days before it, from the start of the calendar
record IsOn (c : Workdays) (t : ℕ) (day : ℤ) : Type 0 where
  days : ℕ
  after : day ≡ epoch_day c.start +ℤ pos days
  working : is_working c day ≡ true
  before : working_days c (epoch_day c.start) days ≡ t

abbrev is_on : Workdays → ℕ → ℤ → Bool
is_on c t day =
    (unsigned_abs (day -ℤ (epoch_day c.start +ℤ pos (days_to (epoch_day c.start) day))) == 0)
    && (is_working c day && (working_days c (epoch_day c.start) (days_to (epoch_day c.start) day) == t))

on_is : (c : Workdays) (t : ℕ) (day : ℤ) → is_on c t day ≡ true → IsOn c t day
on_is c t day e =
    let parts = and_parts _ _ e in
    let others = and_parts _ _ parts.1 in
    record {
      days = days_to (epoch_day c.start) day;
      after = gap (epoch_day c.start) day (eqb-true _ 0 parts.0);
      working = others.0;
      before = eqb-true _ t others.1;
    }

is_on_of : (c : Workdays) (t : ℕ) (day : ℤ) → IsOn c t day → is_on c t day ≡ true
is_on_of c t day is =
    and_from _ _ (eq-eqb _ 0 (no_gap (epoch_day c.start) day is.days is.after))
    (and_from _ _ is.working
    (eq-eqb _ t (ap (working_days c (epoch_day c.start)) (far (epoch_day c.start) day is.days is.after) ∙ is.before)))

-- ---- dates

-- years from -9999 on
abbrev year_at : ℕ → ℤ
year_at n = pos n -ℤ pos 9999

year_from : (y : ℤ) → IsYear y → (n : ℕ) × (n ≤ 19998) × (y ≡ year_at n)
year_from (pos k) is = (k + 9999, omega (arith, signed_arith, is.1), omega (arith, signed_arith))
year_from (negsuc k) is = (9999 - suc k, omega arith, omega (arith, signed_arith, is.0))

is_year : (n : ℕ) → n ≤ 19998 → IsYear (year_at n)
is_year n few = (omega (arith, signed_arith), omega (arith, signed_arith, few))

-- a date in the range of calendars that is such a working day
record IsDated (c : Workdays) (t n month day : ℕ) : Type 0 where
  year_in : n ≤ 19998
  month_in : (1 ≤ month) × (month ≤ 12)
  day_in : (1 ≤ day) × (day ≤ days_in_month (year_at n) month)
  on : IsOn c t (days_from_civil (year_at n) month day)

abbrev is_dated : Workdays → ℕ → ℕ → ℕ → ℕ → Bool
is_dated c t n month day =
    is_from_to 0 19998 n && (is_from_to 1 12 month
    && (is_from_to 1 (days_in_month (year_at n) month) day && is_on c t (days_from_civil (year_at n) month day)))

decide_dated : (c : Workdays) (t n month day : ℕ) → Decided (IsDated c t n month day)
decide_dated c t n month day = decide_test (is_dated c t n month day) (IsDated c t n month day) is test
  where
    is : is_dated c t n month day ≡ true → IsDated c t n month day
    is e =
        let years = and_parts _ _ e in
        let months = and_parts _ _ years.1 in
        let days = and_parts _ _ months.1 in
        record {
          year_in = (from_to 0 19998 n years.0).1;
          month_in = from_to 1 12 month months.0;
          day_in = from_to 1 (days_in_month (year_at n) month) day days.0;
          on = on_is c t _ days.1;
        }

    test : IsDated c t n month day → is_dated c t n month day ≡ true
    test d =
        and_from _ _ (to_from 0 19998 n (omega arith) d.year_in)
        (and_from _ _ (to_from 1 12 month d.month_in.0 d.month_in.1)
        (and_from _ _ (to_from 1 (days_in_month (year_at n) month) day d.day_in.0 d.day_in.1) (is_on_of c t _ d.on)))

of_dated : (c : Workdays) (t n month day : ℕ) → IsDated c t n month day → (date : Date) × IsWorkingDay c t date
of_dated c t n month day d = (
  record { year = year_at n; month = month; day = day; year_in = is_year n d.year_in; month_in = d.month_in; day_in = d.day_in },
  record { days = d.on.days; after = d.on.after; working = d.on.working; before = d.on.before },
)

dated_of : (c : Workdays) (t : ℕ) (date : Date) → IsWorkingDay c t date → (n : ℕ) × (n ≤ 19998) × IsDated c t n date.month date.day
dated_of c t date is =
    let year = year_from date.year date.year_in in (
      year.0,
      year.1,
      record {
        year_in = year.1;
        month_in = date.month_in;
        day_in = subst (λ y. (1 ≤ date.day) × (date.day ≤ days_in_month y date.month)) year.2 date.day_in;
        on = subst (λ y. IsOn c t (days_from_civil y date.month date.day)) year.2 (record { days = is.days; after = is.after; working = is.working; before = is.before });
      },
    )

-- such a date in this month
abbrev IsInMonth : Workdays → ℕ → ℕ → ℕ → Type 0
IsInMonth c t n month = (day : ℕ) × IsDated c t n month day

decide_month : (c : Workdays) (t n month : ℕ) → Decided (IsInMonth c t n month)
decide_month c t n month = by_search (search (IsDated c t n month) (decide_dated c t n month) (suc (days_in_month (year_at n) month)))
  where
    by_search : ((day : ℕ) × IsDated c t n month day) ⊎ ((day : ℕ) → day < suc (days_in_month (year_at n) month) → IsDated c t n month day → ⊥)
        → Decided (IsInMonth c t n month)
    by_search (inl found) = inl found
    by_search (inr none) = inr (λ found. none found.0 (omega (arith, found.1.day_in.1)) found.1)

-- such a date in this year
abbrev IsInYear : Workdays → ℕ → ℕ → Type 0
IsInYear c t n = (month : ℕ) × IsInMonth c t n month

decide_year : (c : Workdays) (t limit : ℕ) → 12 < limit → (n : ℕ) → Decided (IsInYear c t n)
decide_year c t limit all n = by_search (search (IsInMonth c t n) (decide_month c t n) limit)
  where
    by_search : ((month : ℕ) × IsInMonth c t n month) ⊎ ((month : ℕ) → month < limit → IsInMonth c t n month → ⊥) → Decided (IsInYear c t n)
    by_search (inl found) = inl found
    by_search (inr none) = inr (λ found. none found.0 (omega (arith, all, found.1.1.month_in.1)) found.1)

-- an instant has a working day, or it is beyond the calendar
day_or_beyond_by : (limit : ℕ) → 19998 < limit → (c : Workdays) (t : ℕ) → ((date : Date) × IsWorkingDay c t date) ⊎ IsBeyond c t
day_or_beyond_by limit all c t = by_search (search (IsInYear c t) (decide_year c t 13 (omega arith)) limit)
  where
    by_search : ((n : ℕ) × IsInYear c t n) ⊎ ((n : ℕ) → n < limit → IsInYear c t n → ⊥) → ((date : Date) × IsWorkingDay c t date) ⊎ IsBeyond c t
    by_search (inl (n, (month, (day, d)))) = inl (of_dated c t n month day d)
    by_search (inr none) = inr (λ date is.
        let found = dated_of c t date is in
        none found.0 (omega (arith, all, found.1)) (date.month, (date.day, found.2)))

day_or_beyond : (c : Workdays) (t : ℕ) → ((date : Date) × IsWorkingDay c t date) ⊎ IsBeyond c t
day_or_beyond = day_or_beyond_by 19999 (omega arith)

-- ---- tables

some_days : (c : Workdays) (start n : ℕ) → ((text : Text) × IsDaysText c start n text) ⊎ ShowsBeyond c start n
some_days c start zero = inl (column 12 (codes "-") ++ column 12 (codes "-"), refl)
some_days c start (suc n) = by_ends (day_or_beyond c start) (day_or_beyond c (start + n))
  where
    by_ends : ((date : Date) × IsWorkingDay c start date) ⊎ IsBeyond c start → ((date : Date) × IsWorkingDay c (start + n) date) ⊎ IsBeyond c (start + n)
        → ((text : Text) × IsDaysText c start (suc n) text) ⊎ ShowsBeyond c start (suc n)
    by_ends (inr beyond) last = inr (inl beyond)
    by_ends (inl first) (inr beyond) = inr (inr beyond)
    by_ends (inl (a, is)) (inl (b, also)) =
        inl (
          column 12 (date_text a) ++ column 12 (date_text b),
          (column 12 (date_text a), column 12 (date_text b), (a, is, refl), (b, also, refl), refl),
        )

-- a day of one of the first lines is beyond
abbrev IsLineBeyond : Workdays → (ℕ → Interval) → ℕ → Type 0
IsLineBeyond c interval n = (k : ℕ) × (1 ≤ k) × (k ≤ n) × HasDayBeyond c (interval k)

some_lines : (c : Workdays) (front : ℕ → Text) (interval : ℕ → Interval) (n : ℕ) → ((text : Text) × AreDaysLines c front interval n text) ⊎ IsLineBeyond c interval n
some_lines c front interval zero = inl ([], refl)
some_lines c front interval (suc n) = by_parts (some_lines c front interval n) (some_days c (interval (suc n)).start (interval (suc n)).duration)
  where
    by_parts : ((text : Text) × AreDaysLines c front interval n text) ⊎ IsLineBeyond c interval n
        → ((text : Text) × IsDaysText c (interval (suc n)).start (interval (suc n)).duration text) ⊎ HasDayBeyond c (interval (suc n))
        → ((text : Text) × AreDaysLines c front interval (suc n) text) ⊎ IsLineBeyond c interval (suc n)
    by_parts (inr (k, least, most, beyond)) days = inr (k, least, omega (arith, most), beyond)
    by_parts (inl lines) (inr beyond) = inr (suc n, omega arith, omega arith, beyond)
    by_parts (inl (before, are)) (inl (days, show)) =
        let line = front (suc n) ++ days ++ codes "\n" in
        inl (before ++ line, (before, line, are, (days, show, refl), refl))

-- the activities of a project have a table, or a day of one is beyond
pub some_activity_table : (c : Workdays) (net : Net) (starts : List ℕ) → ((text : Text) × IsCalendarTable c net starts text) ⊎ HasActivityBeyond c net starts
some_activity_table c net starts = by_lines (some_lines c (λ j. number_column 4 j) (activity_interval net starts) (count_of net))
  where
    by_lines : ((text : Text) × AreDaysLines c (λ j. number_column 4 j) (activity_interval net starts) (count_of net) text) ⊎ IsLineBeyond c (activity_interval net starts) (count_of net)
        → ((text : Text) × IsCalendarTable c net starts text) ⊎ HasActivityBeyond c net starts
    by_lines (inl (lines, are)) = inl (activity_days_heading ++ lines, (lines, are, refl))
    by_lines (inr (j, least, most, beyond)) = inr (j, (least, most), beyond)

-- the steps of a shop have a table, or a day of one is beyond
pub some_shop_table : (c : Workdays) (s : JobShop) (starts : List ℕ) → ((text : Text) × IsShopCalendarTable c s starts text) ⊎ HasStepBeyond c s starts
some_shop_table c s starts = by_lines (some_lines c (λ n. step_front s (n - 1)) (λ n. step_interval s starts (n - 1)) (count_steps s))
  where
    by_lines : ((text : Text) × AreDaysLines c (λ n. step_front s (n - 1)) (λ n. step_interval s starts (n - 1)) (count_steps s) text)
        ⊎ IsLineBeyond c (λ n. step_interval s starts (n - 1)) (count_steps s) → ((text : Text) × IsShopCalendarTable c s starts text) ⊎ HasStepBeyond c s starts
    by_lines (inl (lines, are)) = inl (step_days_heading ++ lines, (lines, are, refl))
    by_lines (inr (k, least, most, beyond)) = inr (k - 1, omega (arith, least, most), beyond)
