-- The reading of a file as a list with a week: with the options of lists, and a calendar for dates.
use Rattle.std.specs.Prelude.{◌≡◌, ◌⊎◌, ℕ, List, [], Option, Some, None}
use denote.Ref.{Bor}
use Rattle.plan_calendar.specs.WorkingDay.{Workdays}
use Rattle.plan_documents.specs.declared.capacities.Capacity.{Capacity}
use Rattle.plan_spreadsheet.specs.declared.optioned.OptionedList.{OptionedList}
use Rattle.plan_weekback.specs.declared.readings.WeekReading.{WeekReading}
use Rattle.plan_weekback.specs.declared.readings.WeekText.{WeekText}
use Rattle.plan_weekdates.specs.DatedLists as dates
use Rattle.plan_weekdates.specs.declared.list.DatedList.{DatedList}
use Rattle.plan_weekfile.specs.Files.{IsWeekFile, TellsNoWeekFile, text_in}
use Rattle.plan_weekfile.specs.Weeks.{IsWeekWith, TellsNoWeek}
use Rattle.plan_weeklist.specs.declared.listed.ListedWeek.{ListedWeek}
use Rattle.plan_weekview.specs.DatedLines.{TellsNoInstants}

-- the list with instants that a calendar makes of a text
abbrev pub IsDatedBy : Option (Bor Workdays) → List ℕ → Option DatedList → Type 0
IsDatedBy None own dated = dated ≡ None
IsDatedBy (Some calendar) own None = ⊥
IsDatedBy (Some calendar) own (Some dated) = dates.IsDatedList calendar.now [] own dated

-- the list that the options make of a file, and the list with instants
abbrev pub IsWeekText : WeekReading → List ℕ → WeekText → Type 0
IsWeekText reading file t = IsWeekFile reading.options file t.read.list
    × IsDatedBy reading.calendar (text_in t.read.list file) t.dated

-- the text that is read in place of another one
abbrev pub dated_text : Option DatedList → List ℕ → List ℕ
dated_text None own = own
dated_text (Some dated) own = dates.text_of dated own

-- the same in place of a file
abbrev pub text_of : WeekText → List ℕ → List ℕ
text_of t file = dated_text t.dated (text_in t.read.list file)

-- a text is read in place of a file
abbrev pub IsRead : WeekReading → List ℕ → List ℕ → Type 0
IsRead reading file text =
    (t : WeekText) × IsWeekText reading file t × (text ≡ text_of t file)

-- the table and the week that a file is read as, with given capacities
abbrev pub IsWeekIn : List Capacity → Option ℕ → WeekReading → List ℕ → ListedWeek → Type 0
IsWeekIn given today reading file listed =
    (text : List ℕ) × IsRead reading file text × IsWeekWith given today text listed

-- ---- errors

-- a line gives the first error of the dates for a calendar
abbrev pub TellsUndated : Option (Bor Workdays) → List ℕ → List ℕ → Type 0
TellsUndated None own line = ⊥
TellsUndated (Some calendar) own line = TellsNoInstants calendar.now own line

-- the same in the list that the options make of a file
abbrev pub TellsUndatedOf : WeekReading → List ℕ → List ℕ → Type 0
TellsUndatedOf reading file line = (list : Option OptionedList)
    × IsWeekFile reading.options file list × TellsUndated reading.calendar (text_in list file) line

-- a line gives the reason why no text is read in place of a file
abbrev pub TellsNoText : WeekReading → List ℕ → List ℕ → Type 0
TellsNoText reading file line =
    TellsNoWeekFile reading.options file line ⊎ TellsUndatedOf reading file line

-- a line gives the reason why a file isn't read as a week, with given capacities
abbrev pub TellsNoWeekIn : List Capacity → Option ℕ → WeekReading → List ℕ → List ℕ → Type 0
TellsNoWeekIn given today reading file line = TellsNoText reading file line
    ⊎ ((text : List ℕ) × IsRead reading file text × TellsNoWeek given today text line)
