-- The week of a list with given capacities, and the plan of a week.
use Rattle.std.specs.Prelude.{◌≡◌, ◌⊎◌, ℕ, ◌+◌, List, [], ◌∷◌, Option}
use Rattle.plan_documents.specs.Capacities.{Replaces, TellsUnknown}
use Rattle.plan_documents.specs.declared.capacities.Capacity.{Capacity}
use Rattle.plan_solve.specs.Solutions.{IsConflictLimit}
use Rattle.plan_table.specs.Names.{Name}
use Rattle.plan_table.specs.Refused.{IsUnsoundWith}
use Rattle.plan_table.specs.Table.{Resource}
use Rattle.plan_table.specs.declared.fault.ReadError.{ReadError}
use Rattle.plan_table.specs.declared.fault.ReadError.TheVariants as read
use Rattle.plan_spreadsheet.specs.declared.list.PlainList.{PlainList}
use Rattle.plan_week.specs.declared.week.Week.{Week}
use Rattle.plan_weekfile.specs.Lines.{TellsList, TellsPlan}
use Rattle.plan_weeklist.specs.ListedLists.{AreLists, FailsDates, FailsPlain, IsListedWeek}
use Rattle.plan_weeklist.specs.ListedLists.{IsNoListedWeek, table_text}
use Rattle.plan_weeklist.specs.declared.fault.WeekError.TheVariants as errors
use Rattle.plan_weeklist.specs.declared.list.WeekList.{WeekList}
use Rattle.plan_weeklist.specs.declared.listed.ListFault.{ListFault}
use Rattle.plan_weeklist.specs.declared.listed.ListFault.TheVariants as faults
use Rattle.plan_weeklist.specs.declared.listed.ListedWeek.{ListedWeek}
use Rattle.plan_weeks.specs.WeekPlans.{IsNoPlan}
use Rattle.plan_weeks.specs.declared.fault.PlanFault.{PlanFault}

-- the names of resources, by their numbers from n on
abbrev pub names_from : ℕ → List Resource → List Name
names_from n [] = []
names_from n (r ∷ others) = record { number = n; name = r.name } ∷ names_from (n + 1) others

-- ---- capacities

-- a week has all of another one, perhaps with other capacities
pub record KeepsAllButCapacities (own week : Week) : Type 0 where
  pub durations : week.durations ≡ own.durations
  pub arcs : week.arcs ≡ own.arcs
  pub needs : week.needs ≡ own.needs
  pub states : week.states ≡ own.states
  pub dues : week.dues ≡ own.dues
  pub absences : week.absences ≡ own.absences
  pub today : week.today ≡ own.today

-- the given capacities in the place of those of a list, by the names of its resources
abbrev pub AreCapacities : List Capacity → ListedWeek → List ℕ → Type 0
AreCapacities given listed capacities =
    Replaces (names_from 1 listed.table.resources) given listed.week.capacities.items capacities

-- a line gives the first capacity of what is no resource of a list
abbrev pub TellsNoCapacity : List Capacity → ListedWeek → List ℕ → Type 0
TellsNoCapacity given listed line =
    TellsUnknown (names_from 1 listed.table.resources) given listed.week.capacities.items line

-- a week is that of a list, with these capacities in the place of those of the list
pub record IsGivenOf (given : List Capacity) (own listed : ListedWeek) : Type 0 where
  pub table : listed.table ≡ own.table
  pub capacities : AreCapacities given own listed.week.capacities.items
  pub week : KeepsAllButCapacities own.week listed.week

abbrev pub IsGivenWeek : List Capacity → Option ℕ → List ℕ → ListedWeek → Type 0
IsGivenWeek given now text listed =
    (own : ListedWeek) × IsListedWeek [] now text own × IsGivenOf given own listed

-- the table and the week of a list, with given capacities if there are some
abbrev pub IsWeekWith : List Capacity → Option ℕ → List ℕ → ListedWeek → Type 0
IsWeekWith [] now text listed = IsListedWeek [] now text listed
IsWeekWith (first ∷ more) now text listed = IsGivenWeek (first ∷ more) now text listed

-- ---- errors of a list

-- the first check that the plain list fails, whose needs may be above its capacities
abbrev pub FailsSound : Option ℕ → List ℕ → ReadError → Type 0
FailsSound now text error =
    (list : WeekList) × (p : PlainList) × AreLists [] now text list p
    × IsUnsoundWith [] (table_text list p text) error

abbrev pub IsNoSoundWeek : Option ℕ → List ℕ → ListFault → Type 0
IsNoSoundWeek now text faults.Memory = Unit {0}
IsNoSoundWeek now text (faults.Dates f) = FailsDates [] now text (errors.Fault f)
IsNoSoundWeek now text (faults.Spreadsheet f) = FailsPlain [] now text f
IsNoSoundWeek now text (faults.Table f) = FailsSound now text (read.Fault f)

-- a line gives the reason why a text is no list with a week
abbrev pub TellsNoOwn : Option ℕ → List ℕ → List ℕ → Type 0
TellsNoOwn now text line =
    (fault : ListFault) × IsNoListedWeek [] now text fault × TellsList fault line

-- the same if its needs may be above its capacities
abbrev pub TellsNoSound : Option ℕ → List ℕ → List ℕ → Type 0
TellsNoSound now text line =
    (fault : ListFault) × IsNoSoundWeek now text fault × TellsList fault line

-- a given capacity is that of no resource
abbrev pub TellsNoGivenOf : List Capacity → Option ℕ → List ℕ → List ℕ → Type 0
TellsNoGivenOf given now text line =
    (own : ListedWeek) × IsListedWeek [] now text own × TellsNoCapacity given own line

abbrev pub TellsNoGiven : List Capacity → Option ℕ → List ℕ → List ℕ → Type 0
TellsNoGiven given now text line = TellsNoSound now text line ⊎ TellsNoGivenOf given now text line

abbrev pub TellsNoWeek : List Capacity → Option ℕ → List ℕ → List ℕ → Type 0
TellsNoWeek [] now text line = TellsNoOwn now text line
TellsNoWeek (first ∷ more) now text line = TellsNoGiven (first ∷ more) now text line

-- ---- errors of a plan

-- a line gives the reason why the week of a list has no plan
abbrev pub TellsUnplanned : ListedWeek → List ℕ → Type 0
TellsUnplanned listed line =
    (conflicts : ℕ) × (fault : PlanFault) × IsConflictLimit conflicts
    × IsNoPlan conflicts listed.week fault × TellsPlan listed.table.resources fault line
