-- Files that are read as a list with a week, and the errors of reading them.
use Rattle.std.proofs.Common.{◌≡◌, ℕ, List, Option, inl, inr, subst}
use Rattle.plan_documents.proofs.ErrorLemmas.{refuses_as}
use Rattle.plan_documents.specs.declared.capacities.Capacity.{Capacity}
use Rattle.plan_errors.specs.declared.fault.CliFault.{CliFault}
use Rattle.plan_errors.specs.Output.{Refuses}
use Rattle.plan_spreadsheet.specs.declared.optioned.OptionedList.{OptionedList}
use Rattle.plan_weekback.specs.Readings.{IsDatedBy, IsWeekIn, IsWeekText, TellsNoText, TellsNoWeekIn, TellsUndated, text_of}
use Rattle.plan_weekback.specs.declared.readings.WeekReading.{WeekReading}
use Rattle.plan_weekback.specs.declared.readings.WeekText.{WeekText}
use Rattle.plan_weekdates.specs.declared.list.DatedList.{DatedList}
use Rattle.plan_weekfile.specs.declared.files.WeekFile.{WeekFile}
use Rattle.plan_weekfile.specs.Files.{IsWeekFile, TellsNoWeekFile, text_in}
use Rattle.plan_weekfile.specs.Weeks.{IsWeekWith, TellsNoWeek}
use Rattle.plan_weeklist.specs.declared.listed.ListedWeek.{ListedWeek}

-- the list that the options make, and the list with instants
pub text_read : (reading : WeekReading) (file own : List ℕ) (read : WeekFile) (dated : Option DatedList) → IsWeekFile reading.options file read.list
    → own ≡ text_in read.list file → IsDatedBy reading.calendar own dated → IsWeekText reading file (record { read = read; dated = dated })
text_read reading file own read dated list same is = (list, subst (λ (t : List ℕ). IsDatedBy reading.calendar t dated) same is)

-- the error of the options
pub file_refused : (reading : WeekReading) (file : List ℕ) (e : CliFault) → Refuses (TellsNoWeekFile reading.options file) e
    → Refuses (TellsNoText reading file) e
file_refused reading file e told = refuses_as (TellsNoWeekFile reading.options file) (TellsNoText reading file) e (λ line tells. inl tells) told

-- the error of a date in the list that the options make
pub dates_refused : (reading : WeekReading) (file own : List ℕ) (list : Option OptionedList) (e : CliFault) → IsWeekFile reading.options file list
    → own ≡ text_in list file → Refuses (TellsUndated reading.calendar own) e → Refuses (TellsNoText reading file) e
dates_refused reading file own list e is same told =
    refuses_as (TellsUndated reading.calendar own) (TellsNoText reading file) e
    (λ line tells. inr (list, is, subst (λ (t : List ℕ). TellsUndated reading.calendar t line) same tells)) told

-- the table and the week of the text that is read
pub week_read : (given : List Capacity) (today : Option ℕ) (reading : WeekReading) (file text : List ℕ) (t : WeekText) (listed : ListedWeek)
    → IsWeekText reading file t → text ≡ text_of t file → IsWeekWith given today text listed → IsWeekIn given today reading file listed
week_read given today reading file text t listed is same week = (text, (t, is, same), week)

-- a file isn't read as a week: there is no text to read in its place
pub text_unread : (given : List Capacity) (today : Option ℕ) (reading : WeekReading) (file : List ℕ) (e : CliFault)
    → Refuses (TellsNoText reading file) e → Refuses (TellsNoWeekIn given today reading file) e
text_unread given today reading file e told =
    refuses_as (TellsNoText reading file) (TellsNoWeekIn given today reading file) e (λ line tells. inl tells) told

-- or the text has no week
pub week_unread : (given : List Capacity) (today : Option ℕ) (reading : WeekReading) (file text : List ℕ) (t : WeekText) (e : CliFault)
    → IsWeekText reading file t → text ≡ text_of t file → Refuses (TellsNoWeek given today text) e → Refuses (TellsNoWeekIn given today reading file) e
week_unread given today reading file text t e is same told =
    refuses_as (TellsNoWeek given today text) (TellsNoWeekIn given today reading file) e (λ line tells. inr (text, (t, is, same), tells)) told
