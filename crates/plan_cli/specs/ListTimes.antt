-- The times of the activities of a list in a schedule, as texts (docs/definitions.md, "Runs").
use Rattle.std.specs.Prelude.{◌≡◌, ℕ, ◌+◌, zero, suc, Bool, if◌then◌else◌, List, [], ◌∷◌, ◌++◌, Option, Some, None, get_or, length, slice_get, IfSome}
use Rattle.std.specs.Fmt.{decimal}
use Rattle.std.specs.Option.{option_map}
use denote.Ref.{Bor}
use Rattle.jiff_core.specs.declared.civil.date.Date.{Date}
use Rattle.jiff.specs.Words.{date_text}
use Rattle.plan_calendar.specs.WorkingDay.{Workdays, IsWorkingDay}
use Rattle.plan_gantt.specs.CalendarTable.{ShowsBeyond}
use Rattle.plan_table.specs.Table.{Activity, Table}
use Rattle.plan_list_back.specs.ListBack.{Times}

-- the calendar behind a reference, if there is one
abbrev pub calendar_in : Option (Bor Workdays) → Option Workdays
calendar_in calendar = option_map (λ c. c.now) calendar

-- a text is the working day of an instant
abbrev pub IsDayText : Workdays → ℕ → List ℕ → Type 0
IsDayText calendar t text =
    (date : Date) × IsWorkingDay calendar t date × (text ≡ date_text date)

-- the texts of the first and of the last working day of n instants from a start on; they are empty
-- if n is 0
abbrev pub AreDayTexts : Workdays → ℕ → ℕ → List ℕ → List ℕ → Type 0
AreDayTexts calendar start zero first last = (first ≡ []) × (last ≡ [])
AreDayTexts calendar start (suc n) first last =
    IsDayText calendar start first × IsDayText calendar (start + n) last

-- the texts of a start and a finish: numbers of time units, or with a calendar days
abbrev pub AreTexts : Option Workdays → ℕ → ℕ → List ℕ → List ℕ → Type 0
AreTexts None start duration first last =
    (first ≡ decimal start) × (last ≡ decimal (start + duration))
AreTexts (Some calendar) start duration first last =
    AreDayTexts calendar start duration first last

-- the id of an activity, if the list has ids
abbrev pub id_in : Bool → List ℕ → List ℕ
id_in own id = if own then id else []

-- the times of an activity with a start and a slack
pub record AreTimesOf (calendar : Option Workdays) (own : Bool) (a : Activity) (start slack : ℕ)
    (times : Times) : Type 0 where
  pub line : times.line ≡ a.line
  pub id : times.id ≡ id_in own a.id
  pub texts : AreTexts calendar start a.duration times.start times.finish
  pub slack_text : times.slack ≡ decimal slack

-- the same for activity k of a table, from 0: it has the number k + 2 in the project file
abbrev pub AreTimesAt : Option Workdays → Table → List ℕ → List ℕ → ℕ → Times → Type 0
AreTimesAt calendar t starts slacks k times = IfSome (slice_get t.activities k)
    (λ a. AreTimesOf calendar t.own_ids a (get_or starts (k + 1) 0) (get_or slacks (k + 1) 0) times)

-- the times of the first n activities of a table, in order
unfoldable pub AreFirstTimes : Option Workdays → Table → List ℕ → List ℕ → ℕ → List Times → Type 0
AreFirstTimes calendar t starts slacks zero times = times ≡ []
AreFirstTimes calendar t starts slacks (suc n) times = (before : List Times) × (last : Times)
    × AreFirstTimes calendar t starts slacks n before × AreTimesAt calendar t starts slacks n last
    × (times ≡ before ++ last ∷ [])

-- the times of all activities
abbrev pub AreTimes : Option Workdays → Table → List ℕ → List ℕ → List Times → Type 0
AreTimes calendar t starts slacks times =
    AreFirstTimes calendar t starts slacks (length t.activities) times

-- with a calendar, the day of the first or of the last of n instants would be after the last date
abbrev pub IsBeyondIf : Option Workdays → ℕ → ℕ → Type 0
IsBeyondIf None start n = ⊥
IsBeyondIf (Some calendar) start n = ShowsBeyond calendar start n

-- the same for an activity of a table
abbrev pub HasDayBeyond : Option Workdays → Table → List ℕ → Type 0
HasDayBeyond calendar t starts = (k : ℕ) × (a : Activity) × (slice_get t.activities k ≡ Some a)
    × IsBeyondIf calendar (get_or starts (k + 1) 0) a.duration
