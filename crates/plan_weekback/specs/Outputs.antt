-- The planner's own list with the columns of a plan, for `--format list`.
use Rattle.std.specs.Prelude.{◌≡◌, ◌⊎◌, ℕ, Bool, true, false, List, [], Option, bytes_eq, codes}
use Rattle.std.specs.Prelude.{is_some}
use Rattle.plan_calendar.specs.WorkingDay.{Workdays}
use Rattle.plan_encoding.specs.Encodings.{utf8_of}
use Rattle.plan_gantt.specs.declared.days.DaysFault.TheVariants as days
use Rattle.plan_list_back.specs.declared.fault.ListBackFault.{ListBackFault}
use Rattle.plan_list_back.specs.declared.fault.ListBackFault.TheVariants as backs
use Rattle.plan_weekback.specs.Columns.{IsBack, IsNoBack}
use Rattle.plan_weekback.specs.Entries.{AreEntries, Entry, HasEntryBeyond}
use Rattle.plan_weekback.specs.Readings.{IsRead, TellsNoText, TellsNoWeekIn}
use Rattle.plan_weekback.specs.Sameness.{IsAnotherWeek, MeansList}
use Rattle.plan_weekback.specs.declared.readings.WeekReading.{WeekReading}
use Rattle.plan_weekfile.specs.Lines.{TellsDates}
use Rattle.plan_weekfile.specs.Outputs.{RefusesWeek}
use Rattle.plan_weekfile.specs.declared.order.WeekOrder.{WeekOrder}
use Rattle.plan_weeklist.specs.declared.list.WeekList.{WeekList}
use Rattle.plan_weeklist.specs.declared.listed.ListedWeek.{ListedWeek}
use Rattle.plan_weeklist.specs.declared.fault.WeekError.TheVariants as errors
use Rattle.plan_weeklist.specs.declared.fault.WeekFault.{WeekFault}
use Rattle.plan_weeklist.specs.Faults.{fault_of}
use Rattle.plan_weeklist.specs.Lists.{IsNoWeekList, IsWeekList}
use Rattle.plan_weeklist.specs.Rows.{week_rows_of}
use Rattle.plan_weeks.specs.declared.planning.WeekPlan.{WeekPlan}
use Rattle.plan_weekview.specs.DaysOutputs.{IsPlanOfOrder, TellsDays}

-- texts are those of a plan of the week of a list
abbrev pub AreTextsOf : Option Workdays → Option ℕ → List ℕ → ListedWeek → WeekPlan → List Entry
    → Type 0
AreTextsOf calendar today text listed plan entries =
    (list : WeekList) × IsWeekList [] today (utf8_of text) list
    × AreEntries calendar listed.table (week_rows_of list.rows).rows listed.week plan.starts.items
    entries

-- a text is the list of a file with the columns of a plan; `text` is read in place of the file
abbrev pub ShowsPlan : Option Workdays → Option ℕ → List ℕ → ListedWeek → WeekPlan → List ℕ
    → List ℕ → Type 0
ShowsPlan calendar today text listed plan file made = (entries : List Entry)
    × AreTextsOf calendar today text listed plan entries
    × IsBack (is_some plan.lateness) entries file made

-- A text is the list of a file with the columns of a plan of its week for the goal of an order. The
-- text is read as the same table and the same week.
pub record IsWeekBack (order : WeekOrder) (reading : WeekReading) (calendar : Option Workdays)
    (file made text : List ℕ) (listed : ListedWeek) (plan : WeekPlan) : Type 0 where
  pub read : IsRead reading file text
  pub planned : IsPlanOfOrder order text listed plan
  pub shown : ShowsPlan calendar order.today text listed plan file made
  pub same : MeansList order.capacities.now order.today reading made listed

abbrev pub ShowsWeekBack : WeekOrder → WeekReading → Option Workdays → List ℕ → List ℕ → Type 0
ShowsWeekBack order reading calendar file made =
    (text : List ℕ) × (listed : ListedWeek) × (plan : WeekPlan)
    × IsWeekBack order reading calendar file made text listed plan

-- ---- errors of the columns

-- the line of the error of a list that can't be printed with the columns
abbrev pub TellsBack : ListBackFault → List ℕ → Type 0
TellsBack backs.Memory line = ⊥
TellsBack backs.NoList line = line ≡ codes "T3 no column duration"
TellsBack backs.TooLong line = line ≡ codes "T1 too long"
TellsBack backs.Changed line = line ≡ codes "T4 column start, finish or late twice"

-- a line gives the reason why a file has no list with these columns
abbrev pub TellsNoBack : Bool → List Entry → List ℕ → List ℕ → Type 0
TellsNoBack late entries file line =
    (fault : ListBackFault) × IsNoBack late entries file fault × TellsBack fault line

-- The error of a list that can't be read with its columns. If reading it fails because a text is
-- too long, it is that error. Otherwise a column has a meaning in the list.
abbrev pub change_if : Bool → ListBackFault
change_if true = backs.TooLong
change_if false = backs.Changed

abbrev pub TellsChange : List ℕ → List ℕ → Type 0
TellsChange why line = TellsBack (change_if (bytes_eq why (codes "T1 too long"))) line

-- a line reports that a file isn't read as a week, for a reason
abbrev pub TellsUnread : WeekOrder → WeekReading → List ℕ → List ℕ → Type 0
TellsUnread order reading made line = (why : List ℕ)
    × TellsNoWeekIn order.capacities.now order.today reading made why × TellsChange why line

-- a line reports that a file isn't read as the table and the week of a list
abbrev pub TellsAnother : WeekOrder → WeekReading → ListedWeek → List ℕ → List ℕ → Type 0
TellsAnother order reading listed made line = TellsUnread order reading made line
    ⊎ (IsAnotherWeek order.capacities.now order.today reading made listed
    × TellsBack backs.Changed line)

-- the same for a list with these columns
abbrev pub TellsAnotherBack : WeekOrder → WeekReading → ListedWeek → Bool → List Entry → List ℕ
    → List ℕ → Type 0
TellsAnotherBack order reading listed late entries file line = (made : List ℕ)
    × IsBack late entries file made × TellsAnother order reading listed made line

-- a line gives the reason why a list can't have these columns
abbrev pub TellsNoColumns : WeekOrder → WeekReading → ListedWeek → Bool → List Entry → List ℕ
    → List ℕ → Type 0
TellsNoColumns order reading listed late entries file line =
    TellsNoBack late entries file line
    ⊎ TellsAnotherBack order reading listed late entries file line

-- the same for the columns of a plan
abbrev pub TellsNoPlanColumns : WeekOrder → WeekReading → Option Workdays → List ℕ → ListedWeek
    → WeekPlan → List ℕ → List ℕ → Type 0
TellsNoPlanColumns order reading calendar text listed plan file line = (entries : List Entry)
    × AreTextsOf calendar order.today text listed plan entries
    × TellsNoColumns order reading listed (is_some plan.lateness) entries file line

-- ---- errors of the texts

-- a day of an activity in a plan of the week would be after 9999-12-31
abbrev pub HasLateText : Option Workdays → Option ℕ → List ℕ → ListedWeek → WeekPlan → Type 0
HasLateText calendar today text listed plan =
    (list : WeekList) × IsWeekList [] today (utf8_of text) list
    × HasEntryBeyond calendar listed.table (week_rows_of list.rows).rows listed.week
    plan.starts.items

-- a line reports such a day
abbrev pub TellsLateText : Option Workdays → Option ℕ → List ℕ → ListedWeek → WeekPlan → List ℕ
    → Type 0
TellsLateText calendar today text listed plan line =
    HasLateText calendar today text listed plan × TellsDays days.BeyondCalendar line

-- a line gives the first check that the dates of a text fail
abbrev pub TellsNoDates : Option ℕ → List ℕ → List ℕ → Type 0
TellsNoDates today text line = (fault : WeekFault)
    × IsNoWeekList [] today (utf8_of text) (errors.Fault fault) × TellsDates (fault_of fault) line

-- a line gives the reason why a plan has no texts
abbrev pub TellsNoTexts : Option Workdays → Option ℕ → List ℕ → ListedWeek → WeekPlan → List ℕ
    → Type 0
TellsNoTexts calendar today text listed plan line =
    TellsNoDates today text line ⊎ TellsLateText calendar today text listed plan line

-- ---- errors of the list

-- a line gives the reason why a file has no list with a plan of its week
abbrev pub TellsNoList : WeekOrder → WeekReading → Option Workdays → List ℕ → ListedWeek
    → WeekPlan → List ℕ → List ℕ → Type 0
TellsNoList order reading calendar text listed plan file line =
    TellsNoTexts calendar order.today text listed plan line
    ⊎ TellsNoPlanColumns order reading calendar text listed plan file line

-- a plan for the goal of an order has no list: a day is too late, or the columns can't be added
abbrev pub TellsNoListOf : WeekOrder → WeekReading → Option Workdays → List ℕ → List ℕ → List ℕ
    → Type 0
TellsNoListOf order reading calendar text file line =
    (listed : ListedWeek) × (plan : WeekPlan) × IsPlanOfOrder order text listed plan
    × (TellsLateText calendar order.today text listed plan line
    ⊎ TellsNoPlanColumns order reading calendar text listed plan file line)

-- a line refuses the text that is read in place of a file: its week, or the list with its plan
abbrev pub RefusesText : WeekOrder → WeekReading → Option Workdays → List ℕ → List ℕ → Type 0
RefusesText order reading calendar file line = (text : List ℕ) × IsRead reading file text
    × (RefusesWeek order text line ⊎ TellsNoListOf order reading calendar text file line)

-- a line gives the reason why a file has no list with a plan: an error of the file or of its week,
-- a day that is too late, or a list that can't have the columns
abbrev pub RefusesWeekBack : WeekOrder → WeekReading → Option Workdays → List ℕ → List ℕ → Type 0
RefusesWeekBack order reading calendar file line =
    TellsNoText reading file line ⊎ RefusesText order reading calendar file line
