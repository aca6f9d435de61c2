-- The tables of working days with weekdays and times of day (docs/definitions.md, "Tables and
-- charts").
use Rattle.std.specs.Prelude.{◌≡◌, ◌⊎◌, ℕ, ◌+◌, ◌<◌, zero, suc, nat_lt, if◌then◌else◌, List, [], ◌∷◌, ◌++◌, Option, Some, None, codes, length, map, string_bytes, slice_get}
use Rattle.std.specs.List.{AllZip, range_with_len}
use Rattle.jiff_core.specs.declared.civil.date.Date.{Date}
use Rattle.plan_calendar.specs.WorkingDay.{Workdays, IsWorkingDay, IsBeyond}
use Rattle.plan_calendar.specs.Hours.{WorkHours, begin_of, end_of, working_day_of, shown_moment}
use Rattle.plan_gantt.specs.declared.interval.Interval.{Interval}
use Rattle.plan_formats.specs.Cells.{Cell, text, empty}
use Rattle.plan_formats.specs.Columns.{Column}
use Rattle.plan_formats.specs.Tables.{Table}
use Rattle.plan_views.specs.DayTables.{plain_view_of}
use Rattle.plan_views.specs.Headings.{right_column}
use Rattle.plan_views.specs.Plans.{Plan, count_of, interval_of, front_columns, front_of}
use Rattle.plan_views.specs.declared.moments.MomentStyle.{MomentStyle}
use Rattle.plan_views.specs.declared.moments.MomentTexts as declared

-- the working day of a time unit; without hours a time unit is a working day
abbrev pub day_of : Option WorkHours → ℕ → ℕ
day_of None unit = unit
day_of (Some hours) unit = working_day_of hours unit

-- the minute of the day at which a time unit begins, and that at which it ends; none without hours
abbrev pub begin_minute : Option WorkHours → ℕ → Option ℕ
begin_minute None unit = None
begin_minute (Some hours) unit = Some (begin_of hours unit)

abbrev pub end_minute : Option WorkHours → ℕ → Option ℕ
end_minute None unit = None
end_minute (Some hours) unit = Some (end_of hours unit)

-- a text shows the moment at which a time unit begins, or its day
abbrev pub IsBeginText : Workdays → MomentStyle → ℕ → List ℕ → Type 0
IsBeginText calendar style unit bytes =
    (date : Date) × IsWorkingDay calendar (day_of style.hours unit) date
    × (bytes ≡ shown_moment style.weekdays date (begin_minute style.hours unit))

-- a text shows the moment at which a time unit ends, or its day
abbrev pub IsEndText : Workdays → MomentStyle → ℕ → List ℕ → Type 0
IsEndText calendar style unit bytes =
    (date : Date) × IsWorkingDay calendar (day_of style.hours unit) date
    × (bytes ≡ shown_moment style.weekdays date (end_minute style.hours unit))

-- two texts
pub record Pair : Type 0 where
  pub first : List ℕ
  pub last : List ℕ

-- the same, as the program keeps them
abbrev pub pair_of : declared.MomentTexts → Pair
pair_of m = record { first = string_bytes m.first; last = string_bytes m.last }

-- texts show the begin and the end of n time units from a start on; they are empty if n is 0
abbrev pub AreMoments : Workdays → MomentStyle → ℕ → ℕ → Pair → Type 0
AreMoments calendar style start zero pair = (pair.first ≡ []) × (pair.last ≡ [])
AreMoments calendar style start (suc n) pair =
    IsBeginText calendar style start pair.first × IsEndText calendar style (start + n) pair.last

-- texts show the begin and the end of an interval
abbrev pub AreMomentsOf : Workdays → MomentStyle → Interval → declared.MomentTexts → Type 0
AreMomentsOf calendar style interval m =
    AreMoments calendar style interval.start interval.duration (pair_of m)

-- a day of n time units from a start on would be after the last date
abbrev pub HidesMoment : Workdays → MomentStyle → ℕ → ℕ → Type 0
HidesMoment calendar style start zero = ⊥
HidesMoment calendar style start (suc n) =
    IsBeyond calendar (day_of style.hours start) ⊎ IsBeyond calendar (day_of style.hours (start + n))

-- the same for an interval
abbrev pub HidesMomentOf : Workdays → MomentStyle → Interval → Type 0
HidesMomentOf calendar style interval = HidesMoment calendar style interval.start interval.duration

-- the same for some row of a plan
abbrev pub HasMomentBeyond : Workdays → MomentStyle → Plan → List ℕ → Type 0
HasMomentBeyond calendar style p starts =
    (k : ℕ) × (k < count_of p) × HidesMomentOf calendar style (interval_of p starts k)

-- the texts of all rows of a plan
abbrev pub AreAllMoments : Workdays → MomentStyle → Plan → List ℕ → List declared.MomentTexts → Type 0
AreAllMoments calendar style p starts rows =
    AllZip (λ k m. AreMomentsOf calendar style (interval_of p starts k) m) (range_with_len 0 (count_of p)) rows

-- the places of a time of day behind a date
abbrev pub clock_places : Option WorkHours → ℕ
clock_places None = 0
clock_places (Some hours) = 6

-- the width of a column: 12 places, 4 more for a weekday, 6 more for a time of day
abbrev pub moment_places : MomentStyle → ℕ
moment_places style = 12 + (if style.weekdays then 4 else 0) + clock_places style.hours

-- the cell of a text; an empty one for no text
abbrev pub moment_cell : List ℕ → Cell
moment_cell bytes = if nat_lt (length bytes) 1 then empty else text bytes

-- the first or the last of two texts, if there are any
abbrev pub first_of : Option Pair → List ℕ
first_of None = []
first_of (Some pair) = pair.first

abbrev pub last_of : Option Pair → List ℕ
last_of None = []
last_of (Some pair) = pair.last

-- row k of the table
abbrev pub moment_row : Plan → List Pair → ℕ → List Cell
moment_row p pairs k =
    front_of p k ++ moment_cell (first_of (slice_get pairs k))
    ∷ moment_cell (last_of (slice_get pairs k)) ∷ []

-- the columns of the moments
abbrev pub moment_columns : MomentStyle → List Column
moment_columns style = right_column (codes "first") (codes "first_day") (moment_places style)
    ∷ right_column (codes "last") (codes "last_day") (moment_places style) ∷ []

-- the table of the moments of a plan
abbrev pub moments_view : Plan → MomentStyle → List Pair → Table
moments_view p style pairs =
    plain_view_of (front_columns p ++ moment_columns style)
    (map (moment_row p pairs) (range_with_len 0 (count_of p)))
