-- Working days of several time units, an hour each (docs/definitions.md, "Texts"). A time of day is
-- its minutes after midnight; 1440 is the end of the day.
use Rattle.std.specs.Prelude.{◌≡◌, ℕ, ◌+◌, ◌*◌, ◌/◌, ◌%◌, ◌<◌, ◌≤◌, Bool, List, ◌∷◌, ◌++◌, codes, Option, Some, None}
use Rattle.jiff_core.specs.declared.civil.date.Date.{Date}
use Rattle.jiff_fmt.specs.Text.{pad2}
use Rattle.plan_calendar.specs.Weekdays.{shown_date}

-- the hours of a working day: how many time units it has, and the minute at which the first begins
pub record WorkHours : Type 0 where
  pub per_day : ℕ
  pub opens : ℕ

-- a day has time units, and the last one ends by midnight
pub record AreWorkHours (hours : WorkHours) : Type 0 where
  pub some : 0 < hours.per_day
  pub within : hours.opens + hours.per_day * 60 ≤ 1440

-- the working day of a time unit; both are counted from 0
abbrev pub working_day_of : WorkHours → ℕ → ℕ
working_day_of hours unit = unit / hours.per_day

-- the hour of a time unit in its working day, counted from 0
abbrev pub hour_of : WorkHours → ℕ → ℕ
hour_of hours unit = unit % hours.per_day

-- the minute of the day at which a time unit begins
abbrev pub begin_of : WorkHours → ℕ → ℕ
begin_of hours unit = hours.opens + hour_of hours unit * 60

-- the minute of the day at which a time unit ends
abbrev pub end_of : WorkHours → ℕ → ℕ
end_of hours unit = hours.opens + (hour_of hours unit + 1) * 60

-- a time of day as HH:MM
abbrev pub time_text : ℕ → List ℕ
time_text minute = pad2 (minute / 60) ++ 58 ∷ pad2 (minute % 60)

-- a time of day as THHMM00, the basic format of ISO 8601 behind a date
abbrev pub clock_text : ℕ → List ℕ
clock_text minute = codes "T" ++ pad2 (minute / 60) ++ pad2 (minute % 60) ++ codes "00"

-- the text is a time of day before the end of the day
pub record IsTimeText (text : List ℕ) (minute : ℕ) : Type 0 where
  pub spelled : text ≡ time_text minute
  pub within : minute < 1440

-- the text is no time of day
abbrev pub HasNoTime : List ℕ → Type 0
HasNoTime text = (minute : ℕ) → IsTimeText text minute → ⊥

-- these hours have so many time units, and open at the time that the text spells
pub record IsHoursOf (per_day : ℕ) (opens : List ℕ) (hours : WorkHours) : Type 0 where
  pub count : hours.per_day ≡ per_day
  pub opening : IsTimeText opens hours.opens
  pub valid : AreWorkHours hours

-- no hours have so many time units and open at that time
abbrev pub RefusesHours : ℕ → List ℕ → Type 0
RefusesHours per_day opens = (hours : WorkHours) → IsHoursOf per_day opens hours → ⊥

-- a date, with its weekday and with a time of day if they are wanted
abbrev pub shown_moment : Bool → Date → Option ℕ → List ℕ
shown_moment weekdays date None = shown_date weekdays date
shown_moment weekdays date (Some minute) = shown_date weekdays date ++ codes " " ++ time_text minute
