-- Tables of working days (docs/definitions.md, "Texts"). The day of an instant is a relation, so
-- these texts are relations too.
use Rattle.std.specs.Prelude.{◌≡◌, ℕ, ◌+◌, ◌⊎◌, zero, suc, List, [], ◌++◌, codes}
use Rattle.jiff_core.specs.declared.civil.date.Date.{Date}
use Rattle.jiff.specs.Words.{date_text}
use Rattle.plan_gantt.specs.Column.{column, number_column}
use Rattle.plan_calendar.specs.WorkingDay.{Workdays, IsWorkingDay, IsBeyond}
use Rattle.plan_net.specs.Network.{Net, IsActivity, count_of}
use Rattle.plan_gantt.specs.Charts.{activity_interval}
use Rattle.plan_gantt.specs.declared.interval.Interval.{Interval}

-- a text shows the day of an instant, aligned right in its column
abbrev pub IsDayText : Workdays → ℕ → List ℕ → Type 0
IsDayText calendar t text = (date : Date) × IsWorkingDay calendar t date × (text ≡ column 12 (date_text date))

-- a text shows the days of the first and the last of n instants from a start on; hyphens if n is 0
abbrev pub IsDaysText : Workdays → ℕ → ℕ → List ℕ → Type 0
IsDaysText calendar start zero text = text ≡ column 12 (codes "-") ++ column 12 (codes "-")
IsDaysText calendar start (suc n) text =
    (first last : List ℕ) × IsDayText calendar start first × IsDayText calendar (start + n) last × (text ≡ first ++ last)

-- a text is a line: its front, and the days of an interval
abbrev pub IsDaysLine : Workdays → List ℕ → Interval → List ℕ → Type 0
IsDaysLine calendar front interval line =
    (days : List ℕ) × IsDaysText calendar interval.start interval.duration days × (line ≡ front ++ days ++ codes "\n")

-- a text is n lines, numbered from 1; each consists of its front and the days of its interval
abbrev pub AreDaysLines : Workdays → (ℕ → List ℕ) → (ℕ → Interval) → ℕ → List ℕ → Type 0
AreDaysLines calendar front interval zero text = text ≡ []
AreDaysLines calendar front interval (suc n) text =
    (before line : List ℕ) × AreDaysLines calendar front interval n before
    × IsDaysLine calendar (front (suc n)) (interval (suc n)) line × (text ≡ before ++ line)

-- a text is a heading and `count` of these lines
abbrev pub IsDaysTable : Workdays → List ℕ → (ℕ → List ℕ) → (ℕ → Interval) → ℕ → List ℕ → Type 0
IsDaysTable calendar heading front interval count text =
    (lines : List ℕ) × AreDaysLines calendar front interval count lines × (text ≡ heading ++ lines)

-- the day of the first or of the last of n instants from a start on would be after the last date
abbrev pub ShowsBeyond : Workdays → ℕ → ℕ → Type 0
ShowsBeyond calendar start zero = ⊥
ShowsBeyond calendar start (suc n) = IsBeyond calendar start ⊎ IsBeyond calendar (start + n)

-- a day that is shown for an interval would be after the last date
abbrev pub HasDayBeyond : Workdays → Interval → Type 0
HasDayBeyond calendar interval = ShowsBeyond calendar interval.start interval.duration

-- the heading of the table of a project
abbrev pub activity_days_heading : List ℕ
activity_days_heading = codes " act       first        last\n"

-- a text is the table of the working days of a project's activities
abbrev pub IsCalendarTable : Workdays → Net → List ℕ → List ℕ → Type 0
IsCalendarTable calendar net starts text =
    IsDaysTable calendar activity_days_heading (λ j. number_column 4 j) (activity_interval net starts) (count_of net) text

-- a day that is shown for some activity would be after the last date
abbrev pub HasActivityBeyond : Workdays → Net → List ℕ → Type 0
HasActivityBeyond calendar net starts = (j : ℕ) × IsActivity net j × HasDayBeyond calendar (activity_interval net starts j)
