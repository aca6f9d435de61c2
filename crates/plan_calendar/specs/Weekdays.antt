-- The names of weekdays (docs/definitions.md, "Texts").
use Rattle.std.specs.Prelude.{ℕ, Bool, if◌then◌else◌, List, [], ◌∷◌, ◌++◌, codes, get_or}
use Rattle.jiff_core.specs.Date.{weekday_of}
use Rattle.jiff_core.specs.declared.civil.date.Date.{Date}
use Rattle.jiff.specs.Words.{date_text}

-- the names of the weekdays in three letters, Monday first
abbrev pub weekday_names : List (List ℕ)
weekday_names =
    codes "Mon" ∷ codes "Tue" ∷ codes "Wed" ∷ codes "Thu" ∷ codes "Fri" ∷ codes "Sat" ∷ codes "Sun" ∷ []

-- the name of the weekday of a date
unfoldable pub weekday_name : Date → List ℕ
weekday_name date = get_or weekday_names (weekday_of date) []

-- a date as YYYY-MM-DD, with its weekday before it if that is wanted
abbrev pub shown_date : Bool → Date → List ℕ
shown_date weekdays date =
    if weekdays then weekday_name date ++ codes " " ++ date_text date else date_text date
