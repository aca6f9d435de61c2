-- A text of holidays: a date or a range of dates in a line (docs/definitions.md, "Texts"). Dates
-- are written as YYYY-MM-DD (ISO 8601); `#` begins a comment, and blanks are ignored. A byte-order
-- mark (UTF-8) at the start is skipped.
use Rattle.std.specs.Prelude.{◌≡◌, ℕ, ◌+◌, ◌≤◌, ◌<◌, ◌==◌, ◌||◌, ◌⊎◌, Bool, not, List, [], ◌∷◌, ◌++◌, length, slice_index_or, take, drop, filter, pos, ◌+ℤ◌, ℤ, ◌↔◌, true, if◌then◌else◌}
use Rattle.std.specs.Prelude.{nat_eq}
use Rattle.std.specs.List.{position_or_len, slice_split, starts_with}
use Rattle.jiff_core.specs.Date.{epoch_day}
use Rattle.jiff_core.specs.declared.civil.date.Date.{Date}
use Rattle.plan_calendar.specs.CalendarText.{IsStartText}
use Rattle.plan_calendar.specs.WorkingDay.{Workdays, is_holiday}
use Rattle.plan_holidays.specs.declared.fault.HolidayFault.{HolidayFault}
use Rattle.plan_holidays.specs.declared.fault.HolidayFault.TheVariants as fault

abbrev pub is_line_feed : ℕ → Bool
is_line_feed byte = byte == 10

abbrev pub is_hash : ℕ → Bool
is_hash byte = byte == 35

-- a byte that isn't a space, a tab or a carriage return
abbrev pub is_shown : ℕ → Bool
is_shown byte = not (byte == 32 || byte == 9 || byte == 13)

-- the lines of a text, between its line feeds
abbrev pub lines : List ℕ → List (List ℕ)
lines text = slice_split is_line_feed text

-- a text without a byte-order mark at its start
abbrev pub without_mark : List ℕ → List ℕ
without_mark text =
    if starts_with nat_eq text (0xEF ∷ 0xBB ∷ 0xBF ∷ []) then drop 3 text else text

-- a line before its comment
abbrev pub before_comment : List ℕ → List ℕ
before_comment line = take (position_or_len is_hash line) line

-- a text without its blanks
abbrev pub without_blanks : List ℕ → List ℕ
without_blanks text = filter is_shown text

-- a line before its comment, without blanks
abbrev pub entry : List ℕ → List ℕ
entry line = without_blanks (before_comment line)

-- the text is two dates with two points between them
pub record AreEnds (text : List ℕ) (first last : Date) : Type 0 where
  pub first_text : List ℕ
  pub last_text : List ℕ
  pub spelled : text ≡ first_text ++ 46 ∷ 46 ∷ last_text
  pub begins : IsStartText first_text first
  pub ends : IsStartText last_text last

-- the last date isn't before the first
abbrev pub AreInOrder : Date → Date → Type 0
AreInOrder first last = (more : ℕ) × (epoch_day last ≡ epoch_day first +ℤ pos more)

-- the text is a range of dates
abbrev pub IsRange : List ℕ → Date → Date → Type 0
IsRange text first last = AreEnds text first last × AreInOrder first last

-- the text is one date, or a range
abbrev pub IsSpan : List ℕ → Date → Date → Type 0
IsSpan text first last = (IsStartText text first × (last ≡ first)) ⊎ IsRange text first last

-- the days from the first to the last date, in order
pub record AreDays (first last : Date) (days : List Date) : Type 0 where
  pub each : (k : ℕ) (d : Date) → k < length days → epoch_day (slice_index_or days k d) ≡ epoch_day first +ℤ pos k
  pub whole : epoch_day last +ℤ pos 1 ≡ epoch_day first +ℤ pos (length days)

-- a line names no day, or these
abbrev pub NamesDays : List ℕ → List Date → Type 0
NamesDays line days =
    ((entry line ≡ []) × (days ≡ []))
    ⊎ ((first : Date) × (last : Date) × IsSpan (entry line) first last × AreDays first last days)

-- a line is neither blank nor a date nor a range
abbrev pub IsBadLine : List ℕ → Type 0
IsBadLine line = (days : List Date) → NamesDays line days → ⊥

-- lines name these days, line by line
abbrev pub NameDays : List (List ℕ) → List Date → Type 0
NameDays [] days = days ≡ []
NameDays (line ∷ others) days =
    (first : List Date) × (rest : List Date) × NamesDays line first × NameDays others rest × (days ≡ first ++ rest)

-- lines name these holidays, at most 10,000
pub record AreHolidays (all : List (List ℕ)) (days : List Date) : Type 0 where
  pub named : NameDays all days
  pub few : length days ≤ 10000

-- a text names these holidays
abbrev pub NamesHolidays : List ℕ → List Date → Type 0
NamesHolidays text days = AreHolidays (lines (without_mark text)) days

-- a day is one of those from the first to the last date
pub record IsWithin (first last : Date) (day : ℤ) : Type 0 where
  pub since : ℕ
  pub until : ℕ
  pub after : day ≡ epoch_day first +ℤ pos since
  pub before : epoch_day last ≡ day +ℤ pos until

-- a line names a day: the line is a date or a range with that day
abbrev pub HasDay : List ℕ → ℤ → Type 0
HasDay line day =
    (first : Date) × (last : Date) × IsSpan (entry line) first last × IsWithin first last day

-- one of the lines names a day
abbrev pub HaveDay : List (List ℕ) → ℤ → Type 0
HaveDay [] day = ⊥
HaveDay (line ∷ others) day = HasDay line day ⊎ HaveDay others day

-- the days of a list are exactly those that lines name
abbrev pub AreExactly : List (List ℕ) → List Date → Type 0
AreExactly all days = (day : ℤ) → (is_holiday days day ≡ true) ↔ HaveDay all day

-- the days of a list are exactly those that a text names
abbrev pub AreThoseOf : List ℕ → List Date → Type 0
AreThoseOf text days = AreExactly (lines (without_mark text)) days

-- a calendar is this one with the holidays that a text names
pub record HasHolidays (calendar : Workdays) (text : List ℕ) (made : Workdays) : Type 0 where
  pub days : List Date
  pub named : NamesHolidays text days
  pub exact : AreThoseOf text days
  pub same : made ≡ record calendar { holidays = days }

-- a line adds days to those before it, at most 10,000 in all
abbrev pub AddsDays : List Date → List ℕ → List Date → Type 0
AddsDays old line new =
    (more : List Date) × NamesDays line more × (new ≡ old ++ more) × (length new ≤ 10000)

-- the error of the line with this number, which follows these days
abbrev pub RefusesLine : List Date → ℕ → List ℕ → HolidayFault → Type 0
RefusesLine days number line (fault.BadLine n) = (n ≡ number) × IsBadLine line
RefusesLine days number line fault.TooMany =
    (more : List Date) × NamesDays line more × (10000 < length (days ++ more))
RefusesLine days number line fault.Memory = Unit

-- the first of some lines name these days, at most 10,000, and others are after them
pub record AreRead (all before after : List (List ℕ)) (days : List Date) : Type 0 where
  pub split : all ≡ before ++ after
  pub named : NameDays before days
  pub few : length days ≤ 10000

-- the error of lines is that of the first line with an error; lines are counted from 1
pub record RefusesLines (all : List (List ℕ)) (first : HolidayFault) : Type 0 where
  pub before : List (List ℕ)
  pub line : List ℕ
  pub after : List (List ℕ)
  pub days : List Date
  pub so_far : AreRead all before (line ∷ after) days
  pub refused : RefusesLine days (length before + 1) line first

-- the error of a text
abbrev pub RefusesText : List ℕ → HolidayFault → Type 0
RefusesText text first = RefusesLines (lines (without_mark text)) first
