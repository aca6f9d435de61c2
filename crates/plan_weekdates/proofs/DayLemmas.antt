-- Each day number from that of a date on, up to the last one, is that of a date.
use Rattle.std.proofs.Common.{◌≡◌, ℕ, zero, suc, ◌+◌, ◌<◌, ◌≤◌, ◌⊎◌, inl, inr, refl, ◌∙◌, ap, arith, pos, ℤ, ◌+ℤ◌, ◌≤ℤ◌, ◌<ℤ◌}
use Rattle.std.proofs.lemmas.Bool.{cases_lt}
use Rattle.jiff_core.specs.Calendar.{IsYear, days_in_month, days_in_year, day_count, days_from_civil}
use Rattle.jiff_core.specs.Date.{epoch_day}
use Rattle.jiff_core.specs.declared.civil.date.Date.{Date}
use Rattle.jiff_core.proofs.CalendarLemmas.{days_from_civil-day_count, day_count-day, day_count-next_month, day_count-next_year, day_count-last_of_year, day_count-end, days_in_month_bounds}
use Rattle.jiff_core.proofs.SignedLemmas.{signed_arith}

-- the day numbers of two dates differ by one, if their counts do
step : (y z : ℤ) (m n d e : ℕ) → day_count z n e ≡ day_count y m d + 1 → days_from_civil z n e ≡ days_from_civil y m d +ℤ pos 1
step y z m n d e more = omega (arith, signed_arith, more, days_from_civil-day_count y m d, days_from_civil-day_count z n e)

-- the date of the next day
abbrev HasNext : Date → Type 0
HasNext date = (next : Date) × (epoch_day next ≡ epoch_day date +ℤ pos 1)

-- within a month
next_day : (date : Date) → date.day < days_in_month date.year date.month → HasNext date
next_day date more =
    let here = day_count-day date.year date.month (date.day + 1) date.day (omega arith) date.day_in.0 in (
      record { year = date.year; month = date.month; day = date.day + 1; year_in = date.year_in; month_in = date.month_in; day_in = (omega arith, omega (arith, more)) },
      step date.year date.year date.month date.month date.day (date.day + 1) (omega (arith, here)),
    )

-- the first day of the next month
next_month : (date : Date) → days_in_month date.year date.month ≤ date.day → date.month < 12 → HasNext date
next_month date last more =
    let bounds = days_in_month_bounds date.year (date.month + 1) in
    let after = day_count-next_month date.year date.month date.month_in.0 in
    let here = day_count-day date.year date.month date.day 1 date.day_in.0 (omega arith) in (
      record { year = date.year; month = date.month + 1; day = 1; year_in = date.year_in; month_in = (omega arith, omega (arith, more)); day_in = (omega arith, omega (arith, bounds.1)) },
      step date.year date.year date.month (date.month + 1) date.day 1 (omega (arith, after, here, last, date.day_in.1)),
    )

-- a year that isn't the last one has a next year
year_more : (year next : ℤ) → IsYear year → next ≡ year +ℤ pos 1 → (year ≡ pos 9999 → ⊥) → IsYear next
year_more year next inside is other =
    let low = inside.0 in
    let high = inside.1 in
    (omega (arith, signed_arith, low, is), omega (arith, signed_arith, high, is, other))

-- the last day of the last year is the last day
no_more : (date : Date) → date.year ≡ pos 9999 → day_count date.year date.month date.day ≡ day_count date.year 12 31 → epoch_day date <ℤ pos 2932896 → ⊥
no_more date last count before =
    let here = days_from_civil-day_count date.year date.month date.day in
    let end = day_count-last_of_year date.year in
    let low = date.year_in.0 in
    let start = day_count-next_year date.year (pos 10000) (omega (arith, signed_arith, low)) (omega (arith, signed_arith, last)) in
    omega (arith, signed_arith, before, here, count, end, start, day_count-end)

-- the first day of the next year
next_year : (date : Date) → days_in_month date.year date.month ≤ date.day → 12 ≤ date.month → epoch_day date <ℤ pos 2932896 → HasNext date
next_year date last december before =
    let next = date.year +ℤ pos 1 in
    let month : date.month ≡ 12 = omega (arith, december, date.month_in.1) in
    let days : days_in_month date.year date.month ≡ 31 = ap (days_in_month date.year) month in
    let day : date.day ≡ 31 = omega (arith, days, last, date.day_in.1) in
    let count : day_count date.year date.month date.day ≡ day_count date.year 12 31 = ap (λ m. day_count date.year m date.day) month ∙ ap (day_count date.year 12) day in
    let low = date.year_in.0 in
    let start : day_count next 1 1 ≡ day_count date.year 1 1 + days_in_year date.year = day_count-next_year date.year next (omega (arith, signed_arith, low)) refl in
    let end = day_count-last_of_year date.year in (
      record { year = next; month = 1; day = 1; year_in = year_more date.year next date.year_in refl (λ same. no_more date same count before); month_in = (omega arith, omega arith); day_in = (omega arith, omega (arith, (days_in_month_bounds next 1).1)) },
      step date.year next date.month 1 date.day 1 (omega (arith, count, end, start)),
    )

has_next : (date : Date) → epoch_day date <ℤ pos 2932896 → HasNext date
has_next date before = by_day (cases_lt date.day (days_in_month date.year date.month)) (cases_lt date.month 12)
  where
    by_day : (date.day < days_in_month date.year date.month) ⊎ (days_in_month date.year date.month ≤ date.day) → (date.month < 12) ⊎ (12 ≤ date.month) → HasNext date
    by_day (inl more) months = next_day date more
    by_day (inr last) (inl more) = next_month date last more
    by_day (inr last) (inr december) = next_year date last december before

-- the date so many days after another one
pub later_date : (date : Date) (n : ℕ) → (epoch_day date +ℤ pos n) ≤ℤ pos 2932896 → (later : Date) × (epoch_day later ≡ epoch_day date +ℤ pos n)
later_date date zero within = (date, omega (arith, signed_arith))
later_date date (suc n) within =
    let found = later_date date n (omega (arith, signed_arith, within)) in
    let is = found.1 in
    let next = has_next found.0 (omega (arith, signed_arith, within, is)) in
    let behind = next.1 in
    (next.0, omega (arith, signed_arith, is, behind))
