-- The days of a plan (docs/definitions.md, "Sheets"). Instant t is the working day with t working
-- days before it.
use Rattle.std.specs.Prelude.{◌≡◌, ℕ, ◌<◌, ◌==◌, if◌then◌else◌, List, [], Option, Some, None, pos, ◌+ℤ◌, ◌<ℤ◌, Contains, slice_get}
use Rattle.std.specs.List.{AllZip, flat_map, range_with_len}
use Rattle.std.specs.Char.{encode_utf8}
use Rattle.std.specs.Str.{chars}
use Rattle.jiff_core.specs.Date.{epoch_day}
use Rattle.jiff_core.specs.declared.civil.date.Date.{Date}
use Rattle.jiff.specs.Words.{date_text}
use Rattle.plan_calendar.specs.WorkingDay.{Workdays, IsWorkingDay, IsBeyond}

-- these are the days of the first `count` instants
abbrev pub AreDays : Workdays → ℕ → List Date → Type 0
AreDays calendar count days = AllZip (IsWorkingDay calendar) (range_with_len 0 count) days

-- the day of one of the first `count` instants would be after the last date
abbrev pub HasDayBeyond : Workdays → ℕ → Type 0
HasDayBeyond calendar count = (t : ℕ) × (t < count) × IsBeyond calendar t

-- a day is the one after another
abbrev pub IsDayAfter : Date → Date → Type 0
IsDayAfter day next = epoch_day next ≡ epoch_day day +ℤ pos 1

-- the day isn't before the last date of the calendar, 9999-12-31
abbrev pub IsLastDay : Date → Type 0
IsLastDay day = epoch_day day <ℤ pos 2932896 → ⊥

-- one of the days is the last date of the calendar
abbrev pub HasLastDay : List Date → Type 0
HasLastDay days = (last : Date) × Contains days last × IsLastDay last

-- a day as YYYY-MM-DD; nothing for no day
abbrev pub shown_day : Option Date → List ℕ
shown_day None = []
shown_day (Some day) = date_text day

-- the day at an index
abbrev pub day_text : List Date → ℕ → List ℕ
day_text days t = shown_day (slice_get days t)

-- a character of a date, if it isn't a hyphen
abbrev pub digit_of : ℕ → List ℕ
digit_of c = if c == 45 then [] else encode_utf8 c

-- a date without its hyphens
abbrev pub compact : List ℕ → List ℕ
compact text = flat_map digit_of (chars text)

-- the day at an index, without hyphens
abbrev pub compact_day : List Date → ℕ → List ℕ
compact_day days t = compact (day_text days t)
