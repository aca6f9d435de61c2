-- Files that are read as the same table and week, or as another table or week.
use Rattle.std.specs.Prelude.{◌≡◌, ℕ, List, Option, map}
use Rattle.plan_documents.specs.declared.capacities.Capacity.{Capacity}
use Rattle.plan_week.specs.declared.week.Week.{Week}
use Rattle.plan_weekback.specs.declared.readings.WeekReading.{WeekReading}
use Rattle.plan_weekback.specs.Readings.{IsWeekIn}
use Rattle.plan_weeklist.specs.declared.listed.ListedWeek.{ListedWeek}

-- two weeks have the same activities, resources, dates and absences
pub record IsSameWeek (a b : Week) : Type 0 where
  pub durations : a.durations.items ≡ b.durations.items
  pub arcs : a.arcs.items ≡ b.arcs.items
  pub needs : map (λ row. row.items) a.needs.items ≡ map (λ row. row.items) b.needs.items
  pub capacities : a.capacities.items ≡ b.capacities.items
  pub states : a.states.items ≡ b.states.items
  pub dues : a.dues.items ≡ b.dues.items
  pub absences : a.absences.items ≡ b.absences.items
  pub today : a.today ≡ b.today

-- two lists have the same table and the same week
pub record IsSameList (a b : ListedWeek) : Type 0 where
  pub table : a.table ≡ b.table
  pub week : IsSameWeek a.week b.week

-- a file is read as the same table and week as those of another list
abbrev pub MeansList : List Capacity → Option ℕ → WeekReading → List ℕ → ListedWeek → Type 0
MeansList given today reading made listed =
    (other : ListedWeek) × IsWeekIn given today reading made other × IsSameList listed other

-- a file is read as another table or week than those of a list
abbrev pub IsAnotherWeek : List Capacity → Option ℕ → WeekReading → List ℕ → ListedWeek → Type 0
IsAnotherWeek given today reading made listed = (other : ListedWeek)
    × IsWeekIn given today reading made other × (IsSameList listed other → ⊥)
