-- Days as an axis shows them (docs/definitions.md, "Sheets").
use Rattle.std.specs.Prelude.{ℕ, ◌%◌, ◌==◌, if◌then◌else◌, nat_lt, List, [], ◌++◌, codes}
use Rattle.std.specs.Prelude.{Option, Some, None, slice_get}
use Rattle.std.specs.Fmt.{decimal}
use Rattle.jiff_core.specs.declared.civil.date.Date.{Date}
use Rattle.plan_sheet.specs.Axis.{day_number}
use Rattle.plan_sheet.specs.Days.{day_text}

-- the name of a day of the week, from Monday on
unfoldable pub weekday_name : ℕ → List ℕ
weekday_name n =
    if n == 0 then codes "Mon" else if n == 1 then codes "Tue" else if n == 2 then codes "Wed"
    else if n == 3 then codes "Thu" else if n == 4 then codes "Fri" else if n == 5 then codes "Sat"
    else codes "Sun"

-- the name of a month
unfoldable pub month_name : ℕ → List ℕ
month_name n =
    if n == 1 then codes "Jan" else if n == 2 then codes "Feb" else if n == 3 then codes "Mar"
    else if n == 4 then codes "Apr" else if n == 5 then codes "May" else if n == 6 then codes "Jun"
    else if n == 7 then codes "Jul" else if n == 8 then codes "Aug" else if n == 9 then codes "Sep"
    else if n == 10 then codes "Oct" else if n == 11 then codes "Nov" else codes "Dec"

-- the number of a day between the names
unfoldable pub number_part : ℕ → List ℕ
number_part n = codes " " ++ decimal n ++ codes " "

-- a day with its name, as in `Mon 30 Nov`
unfoldable pub weekday_text : Date → List ℕ
weekday_text day =
    weekday_name (day_number day % 7) ++ number_part day.day ++ month_name day.month

-- the same, for a day that there may be
abbrev pub weekday_or : Option Date → List ℕ
weekday_or None = []
weekday_or (Some day) = weekday_text day

-- the label of an instant on an axis of this length: the day with its name, or its date if the axis
-- is longer than a year
abbrev pub axis_label : ℕ → List Date → ℕ → List ℕ
axis_label span days t =
    if nat_lt 366 span then day_text days t else weekday_or (slice_get days t)
