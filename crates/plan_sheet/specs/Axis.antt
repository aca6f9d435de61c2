-- Places on the axis of a chart, and the distance of its marks (docs/definitions.md, "Sheets"). With
-- days the axis is one of calendar days from the first working day on, else one of time units.
use Rattle.std.specs.Prelude.{ℕ, ◌+◌, ◌-◌, ◌*◌, ◌/◌, ◌%◌, ◌==◌, Bool, true, false, not, if◌then◌else◌, nat_le, nat_lt, List, [], ◌∷◌, length, fold, Option}
use Rattle.std.specs.Prelude.{Some, None, max, min, slice_get, unsigned_abs, pos, ◌+ℤ◌}
use Rattle.jiff_core.specs.Date.{epoch_day}
use Rattle.jiff_core.specs.declared.civil.date.Date.{Date}
use Rattle.plan_sheet.specs.Place.{place}

-- the first distance of which the span has at most 12; a thousand million if there is none
abbrev pub first_wide : ℕ → List ℕ → ℕ
first_wide span [] = 1000000000
first_wide span (distance ∷ distances) = if nat_le span (12 * distance) then distance else first_wide span distances

-- the distance of the marks without days
unfoldable pub tick_distance : ℕ → ℕ
tick_distance span =
    max (first_wide span
    (1 ∷ 5 ∷ 10 ∷ 50 ∷ 100 ∷ 500 ∷ 1000 ∷ 5000 ∷ 10000 ∷ 50000 ∷ 100000 ∷ 500000 ∷ 1000000 ∷ [])) 1

-- the number of marks: the multiples of the distance up to the span
abbrev pub mark_count : ℕ → ℕ
mark_count span = span / tick_distance span + 1

-- the number of weeks from one labelled week to the next
unfoldable pub week_distance : ℕ → ℕ
week_distance span =
    max (first_wide (span + span / 3)
    (7 ∷ 14 ∷ 28 ∷ 56 ∷ 91 ∷ 182 ∷ 364 ∷ 728 ∷ 1820 ∷ 3640 ∷ 7280 ∷ 18200 ∷ 36400 ∷ []) / 7) 1

-- the number of a day, from -9999-01-01 on; that of a Monday is a multiple of 7
unfoldable pub day_number : Date → ℕ
day_number day = unsigned_abs (epoch_day day +ℤ pos 4371587)

-- the days from the first one, if there is one, to another
abbrev pub days_since : Option Date → Date → ℕ
days_since None day = 0
days_since (Some first) day = day_number day - day_number first

-- the days from the first one of a list to another
unfoldable pub since_first : List Date → Date → ℕ
since_first days day = days_since (slice_get days 0) day

-- the place on the axis where the time unit from instant t on begins: its day, if there is one
abbrev pub begin_of : List Date → ℕ → Option Date → ℕ
begin_of days t None = t
begin_of days t (Some day) = since_first days day

unfoldable pub axis_from : List Date → ℕ → ℕ
axis_from days t = begin_of days t (slice_get days t)

-- the place on the axis where the time unit up to instant t ends: the end of its day
abbrev pub end_of : List Date → ℕ → Option Date → ℕ
end_of days t None = t
end_of days t (Some day) = since_first days day + 1

unfoldable pub axis_to : List Date → ℕ → ℕ
axis_to days t = if nat_lt t 1 then 0 else end_of days t (slice_get days (t - 1))

-- the time units of a day of the axis, 1 to 24
abbrev pub units_of : ℕ → ℕ
units_of per_day = min (max per_day 1) 24

-- where the time unit from instant t on begins, and where that up to instant t ends; a day of the
-- axis has as many units as a working day
unfoldable pub unit_from : List Date → ℕ → ℕ → ℕ
unit_from days per_day t =
    axis_from days (t / units_of per_day) * units_of per_day + t % units_of per_day

unfoldable pub unit_to : List Date → ℕ → ℕ → ℕ
unit_to days per_day t = if nat_lt t 1 then 0 else unit_from days per_day (t - 1) + 1

-- the same on a chart whose axis has so many days
unfoldable pub begin_place : ℕ → List Date → ℕ → ℕ → ℕ
begin_place span days per_day t = place (span * units_of per_day) (unit_from days per_day t)

unfoldable pub end_place : ℕ → List Date → ℕ → ℕ → ℕ
end_place span days per_day t = place (span * units_of per_day) (unit_to days per_day t)

-- the number of the week of a day, if there is one; weeks begin on Monday
abbrev pub week_of : Option Date → ℕ
week_of None = 0
week_of (Some day) = day_number day / 7

abbrev pub week_at : List Date → ℕ → ℕ
week_at days t = week_of (slice_get days t)

-- instant t is the first one of a week, and not the first one of all
unfoldable pub starts_week : List Date → ℕ → Bool
starts_week days t = if nat_lt t 1 then false else not (week_at days (t - 1) == week_at days t)

-- the week of instant t is labelled: a number of weeks after the first one that is a multiple of the
-- distance
unfoldable pub is_labelled_week : ℕ → List Date → ℕ → Bool
is_labelled_week span days t = (week_at days t - week_at days 0) % week_distance span == 0

-- the weekday of a day, 0 for a Monday
abbrev pub weekday : Date → ℕ
weekday day = day_number day % 7

-- the first weekday of these days, 7 if there are none
abbrev pub first_weekday : List Date → ℕ
first_weekday days = fold (λ least day. min least (weekday day)) 7 days

-- a day, if there is one, is on the first weekday of these days
abbrev pub is_on_first : List Date → Option Date → Bool
is_on_first days None = false
is_on_first days (Some day) = weekday day == first_weekday days

-- instant t begins a labelled week, on the first weekday: so labels are whole weeks apart
unfoldable pub starts_labelled : ℕ → List Date → ℕ → Bool
starts_labelled span days t =
    if not (starts_week days t) then false else if is_labelled_week span days t
    then is_on_first days (slice_get days t) else false

-- instant t has a label: the first one has, and the first one of each labelled week that has room
-- for it, between the first label and the end of the image
unfoldable pub has_label : ℕ → List Date → ℕ → Bool
has_label span days t =
    if nat_lt t 1 then true else if nat_lt (place span (axis_from days t)) 436 then false
    else if nat_lt 1291 (place span (axis_from days t)) then false
    else starts_labelled span days t

-- the number of days that have a mark
abbrev pub day_count : List Date → ℕ
day_count days = min (length days) 20000000

-- the same for weeks and days without work; none if there are more than 2,000 days
abbrev pub shade_count : List Date → ℕ
shade_count days = if nat_le (length days) 2000 then length days else 0
