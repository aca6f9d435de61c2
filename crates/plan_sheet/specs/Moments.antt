-- The moments at which bars begin and end (docs/definitions.md, "Sheets").
use Rattle.std.specs.Prelude.{ℕ, ◌+◌, ◌-◌, ◌==◌, Bool, if◌then◌else◌, nat_lt, List, [], ◌++◌}
use Rattle.std.specs.Prelude.{Option, Some, None, slice_get}
use Rattle.jiff_core.specs.declared.civil.date.Date.{Date}
use Rattle.plan_calendar.specs.Hours.{WorkHours, begin_of, clock_text, end_of, shown_moment, working_day_of}
use Rattle.plan_sheet.specs.Days.{compact_day}

-- the working day of a time unit; without hours a time unit is a working day
abbrev pub day_of : Option WorkHours → ℕ → ℕ
day_of None unit = unit
day_of (Some hours) unit = working_day_of hours unit

-- the time units of a working day
abbrev pub per_day_of : Option WorkHours → ℕ
per_day_of None = 1
per_day_of (Some hours) = hours.per_day

-- how many working days so many time units need
abbrev pub day_count : Option WorkHours → ℕ → ℕ
day_count hours units = if nat_lt units 1 then 0 else day_of hours (units - 1) + 1

-- a minute of a working day
abbrev pub moment_stamp : List Date → ℕ → ℕ → List ℕ
moment_stamp days day minute = compact_day days day ++ clock_text minute

-- the moment at which a time unit begins; without hours that is its day
abbrev pub begin_stamp : Option WorkHours → List Date → ℕ → List ℕ
begin_stamp None days unit = compact_day days unit
begin_stamp (Some hours) days unit =
    moment_stamp days (working_day_of hours unit) (begin_of hours unit)

-- the moment at which an hour of a working day ends: at the end of the day it is the beginning of
-- the next one
abbrev pub end_moment : List Date → List Date → ℕ → ℕ → List ℕ
end_moment days nexts day minute =
    if minute == 1440 then moment_stamp nexts day 0 else moment_stamp days day minute

-- the moment at which a time unit ends; without hours that is the day after it
abbrev pub end_stamp : Option WorkHours → List Date → List Date → ℕ → List ℕ
end_stamp None days nexts unit = compact_day nexts unit
end_stamp (Some hours) days nexts unit = end_moment days nexts (working_day_of hours unit) (end_of hours unit)

-- a moment of a day, perhaps with its weekday and its time; nothing for no day
abbrev pub moment_of : Bool → Option Date → Option ℕ → List ℕ
moment_of weekdays None minute = []
moment_of weekdays (Some day) minute = shown_moment weekdays day minute

-- the moment of a working day, perhaps with its time
abbrev pub moment_text : Bool → List Date → ℕ → Option ℕ → List ℕ
moment_text weekdays days day minute = moment_of weekdays (slice_get days day) minute

-- the moment at which a time unit begins, and that at which it ends, as they are shown; without
-- hours both are its day
abbrev pub begin_text : Bool → Option WorkHours → List Date → ℕ → List ℕ
begin_text weekdays None days unit = moment_text weekdays days unit None
begin_text weekdays (Some hours) days unit =
    moment_text weekdays days (working_day_of hours unit) (Some (begin_of hours unit))

abbrev pub end_text : Bool → Option WorkHours → List Date → ℕ → List ℕ
end_text weekdays None days unit = moment_text weekdays days unit None
end_text weekdays (Some hours) days unit =
    moment_text weekdays days (working_day_of hours unit) (Some (end_of hours unit))
