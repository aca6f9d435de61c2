-- The hours of a working day, as a command gives them (docs/definitions.md, "Runs").
use Rattle.std.specs.Prelude.{◌≡◌, ℕ, ◌==◌, if◌then◌else◌, List, Option, Some, None, codes}
use Rattle.plan_calendar.specs.Hours.{WorkHours, IsHoursOf, RefusesHours}

-- hours, or none for a working day of one time unit
abbrev pub choice_of : ℕ → WorkHours → Option WorkHours
choice_of per_day hours = if per_day == 1 then None else Some hours

-- the hours that a command gives: those of so many time units that open at this time
abbrev pub AreHours : ℕ → List ℕ → Option WorkHours → Type 0
AreHours per_day opens choice =
    (hours : WorkHours) × IsHoursOf per_day opens hours × (choice ≡ choice_of per_day hours)

-- a line refuses hours
abbrev pub TellsNoHours : ℕ → List ℕ → List ℕ → Type 0
TellsNoHours per_day opens line = RefusesHours per_day opens × (line ≡ codes "G7 hours")
