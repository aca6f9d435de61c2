-- The texts of a plan for the activities of its list.
use Rattle.std.specs.Prelude.{◌≡◌, ◌⊎◌, ℕ, ◌-◌, Bool, true, false, List, [], Option, Some, None}
use Rattle.std.specs.Prelude.{nat_lt}
use Rattle.std.specs.Fmt.{decimal}
use Rattle.std.specs.List.{find, slice_get}
use Rattle.std.specs.Option.{option_map}
use Rattle.std.specs.String.{string_bytes}
use denote.Ref.{Bor}
use Rattle.jiff.specs.Words.{date_text}
use Rattle.jiff_core.specs.declared.civil.date.Date.{Date}
use Rattle.plan_calendar.specs.WorkingDay.{IsWorkingDay, Workdays}
use Rattle.plan_table.specs.Cells.{same}
use Rattle.plan_table.specs.Table.{Activity, Table}
use Rattle.plan_week.specs.declared.week.Week.{Week}
use Rattle.plan_week.specs.Tardiness.{tardiness_of}
use Rattle.plan_week.specs.Weeks.{end_of}
use Rattle.plan_weekback.specs.declared.entries.Entry as declared
use Rattle.plan_weekdates.specs.Sequences.{Become, FirstFails}
use Rattle.plan_weeklist.specs.declared.dates.Beginning.{Beginning}
use Rattle.plan_weeklist.specs.declared.dates.Beginning.TheVariants.{Missing, At, Interrupted}
use Rattle.plan_weeklist.specs.Rows.{DatedRow}
use Rattle.plan_weeks.specs.WeekTables.{planned}
use Rattle.plan_weekview.specs.WeekDays.{IsFirstBeyond, IsLastBeyond, begins_at, takes_time}

-- the texts of an activity, whose row begins in a line and has the id in a cell; the id is empty if
-- the list has no ids
pub record Entry : Type 0 where
  pub line : ℕ
  pub id : List ℕ
  pub start : List ℕ
  pub finish : List ℕ
  pub late : List ℕ

-- the same, as the program keeps it
abbrev pub entry_of : declared.Entry → Entry
entry_of e = record {
  line = e.line;
  id = string_bytes e.id;
  start = string_bytes e.start;
  finish = string_bytes e.finish;
  late = string_bytes e.late;
}

-- the calendar that a reference refers to, if it is given
abbrev pub days_in : Option (Bor Workdays) → Option Workdays
days_in calendar = option_map (λ c. c.now) calendar

-- ---- instants

-- the instant at which an activity began, if its row gives it
abbrev pub began_in : Beginning → Option ℕ
began_in Missing = None
began_in Interrupted = None
began_in (At began) = Some began

abbrev pub began_if : Option DatedRow → Option ℕ
began_if None = None
began_if (Some row) = began_in row.dates.begun

-- a row has an id
abbrev pub has_id : List ℕ → DatedRow → Bool
has_id id row = same row.id id

-- the row of activity k: the first one with its id, or row k of a list without ids
abbrev pub row_for : Bool → List DatedRow → ℕ → List ℕ → Option DatedRow
row_for true rows k id = find (has_id id) rows
row_for false rows k id = slice_get rows k

-- the instant at which an activity begins or began in a plan; for a done activity, that of its row
abbrev pub known_or : Option ℕ → Option ℕ → Option ℕ
known_or None in_row = in_row
known_or (Some begin) in_row = Some begin

-- the same for activity k of a week
abbrev pub known_begin : Bool → List DatedRow → Week → List ℕ → ℕ → Activity → Option ℕ
known_begin own rows week starts k a =
    known_or (begins_at week starts k) (began_if (row_for own rows k a.id))

-- ---- texts

-- the id of an activity, if its list has ids
abbrev pub id_if : Bool → List ℕ → List ℕ
id_if false id = []
id_if true id = id

-- the digits of an instant, if it is known
abbrev pub instant_text : Option ℕ → List ℕ
instant_text None = []
instant_text (Some t) = decimal t

-- a text is the working day of an instant
abbrev pub IsDayText : Workdays → ℕ → List ℕ → Type 0
IsDayText calendar t text =
    (date : Date) × IsWorkingDay calendar t date × (text ≡ date_text date)

-- the same, if it is shown; else the text is empty
abbrev pub IsDayTextIf : Workdays → Bool → ℕ → List ℕ → Type 0
IsDayTextIf calendar false t text = text ≡ []
IsDayTextIf calendar true t text = IsDayText calendar t text

-- the day of a begin; it is empty if the begin isn't known, or if the activity takes no time
abbrev pub IsFirstText : Workdays → Option ℕ → ℕ → List ℕ → Type 0
IsFirstText calendar None ends text = text ≡ []
IsFirstText calendar (Some begin) ends text = IsDayTextIf calendar (nat_lt begin ends) begin text

-- the text of a start: the instant, or with a calendar its day
abbrev pub IsStartText : Option Workdays → Option ℕ → ℕ → List ℕ → Type 0
IsStartText None begin ends text = text ≡ instant_text begin
IsStartText (Some calendar) begin ends text = IsFirstText calendar begin ends text

-- the text of a finish: the instant, or with a calendar the day of the last instant before it
abbrev pub IsFinishText : Option Workdays → Option ℕ → ℕ → List ℕ → Type 0
IsFinishText None begin ends text = text ≡ decimal ends
IsFinishText (Some calendar) begin ends text =
    IsDayTextIf calendar (takes_time begin ends) (ends - 1) text

-- the texts of activity k of a week in a plan. Its last day is that of the table of working days.
pub record IsEntry (days : Option Workdays) (own : Bool) (rows : List DatedRow) (week : Week)
    (starts : List ℕ) (k : ℕ) (a : Activity) (e : Entry) : Type 0 where
  pub line : e.line ≡ a.line
  pub id : e.id ≡ id_if own a.id
  pub start : IsStartText days (known_begin own rows week starts k a) (end_of week starts k) e.start
  pub finish : IsFinishText days (begins_at week starts k) (end_of week starts k) e.finish
  pub late : e.late ≡ decimal (tardiness_of week starts k)

-- the texts of all activities of a week, whose list has these rows
abbrev pub AreEntries : Option Workdays → Table → List DatedRow → Week → List ℕ → List Entry
    → Type 0
AreEntries days t rows week starts entries =
    Become (IsEntry days t.own_ids rows week starts) 0 (planned week t.activities) entries

-- ---- days after the last date

-- the first day of an activity would be after 9999-12-31
abbrev pub IsStartBeyond : Option Workdays → Option ℕ → ℕ → Type 0
IsStartBeyond None begin ends = ⊥
IsStartBeyond (Some calendar) begin ends = IsFirstBeyond calendar begin ends

-- the last day of an activity would be after 9999-12-31
abbrev pub IsFinishBeyond : Option Workdays → Option ℕ → ℕ → Type 0
IsFinishBeyond None begin ends = ⊥
IsFinishBeyond (Some calendar) begin ends = IsLastBeyond calendar begin ends

-- a day of activity k would be after 9999-12-31
abbrev pub IsEntryBeyond : Option Workdays → Bool → List DatedRow → Week → List ℕ → ℕ → Activity
    → Type 0
IsEntryBeyond days own rows week starts k a =
    IsStartBeyond days (known_begin own rows week starts k a) (end_of week starts k)
    ⊎ IsFinishBeyond days (begins_at week starts k) (end_of week starts k)

-- a day of an activity would be after 9999-12-31, and all activities before it have their texts
abbrev pub HasEntryBeyond : Option Workdays → Table → List DatedRow → Week → List ℕ → Type 0
HasEntryBeyond days t rows week starts =
    FirstFails (IsEntry days t.own_ids rows week starts)
    (IsEntryBeyond days t.own_ids rows week starts) 0 (planned week t.activities)
