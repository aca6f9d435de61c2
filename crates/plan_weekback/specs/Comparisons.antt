-- The tests by which two lists are compared. They decide whether the lists have the same table and
-- the same week.
use Rattle.std.specs.Prelude.{ℕ, ◌==◌, ◌&&◌, Bool, true, false, List, Option, Some, None, map}
use Rattle.std.specs.Prelude.{bytes_eq, nat_eq, not}
use Rattle.std.specs.Cmp.Lexicographic.{pointwise}
use Rattle.plan_kernel.specs.declared.input.Absence.{Absence}
use Rattle.plan_kernel.specs.declared.input.Arc.{Arc}
use Rattle.plan_table.specs.Table.{Activity, Resource, Table}
use Rattle.plan_week.specs.declared.week.State.{State}
use Rattle.plan_week.specs.declared.week.State.TheVariants.{Open, Begun, Done}
use Rattle.plan_week.specs.declared.week.Week.{Week}
use Rattle.plan_weeklist.specs.declared.listed.ListedWeek.{ListedWeek}

abbrev pub same_flag : Bool → Bool → Bool
same_flag false b = not b
same_flag true b = b

abbrev pub same_numbers : List ℕ → List ℕ → Bool
same_numbers a b = pointwise nat_eq a b

-- ---- tables

abbrev pub same_activity : Activity → Activity → Bool
same_activity a b = a.line == b.line && (bytes_eq a.id b.id && (bytes_eq a.name b.name
    && (a.duration == b.duration && (same_numbers a.predecessors b.predecessors
    && same_numbers a.needs b.needs))))

abbrev pub same_resource : Resource → Resource → Bool
same_resource a b = bytes_eq a.name b.name && a.capacity == b.capacity

abbrev pub same_table : Table → Table → Bool
same_table a b = same_flag a.own_ids b.own_ids && (pointwise same_activity a.activities b.activities
    && pointwise same_resource a.resources b.resources)

-- ---- weeks

abbrev pub same_arc : Arc → Arc → Bool
same_arc a b = a.from == b.from && (a.to == b.to && a.lag == b.lag)

abbrev pub same_instant : Option ℕ → Option ℕ → Bool
same_instant None None = true
same_instant None (Some b) = false
same_instant (Some a) None = false
same_instant (Some a) (Some b) = a == b

-- a state is that of an activity that hasn't begun
abbrev pub is_open : ℕ → Option ℕ → State → Bool
is_open earliest fixed (Open other appointment) =
    earliest == other && same_instant fixed appointment
is_open earliest fixed (Begun began remaining) = false
is_open earliest fixed (Done ended) = false

-- a state is that of an activity that has begun
abbrev pub is_begun : ℕ → ℕ → State → Bool
is_begun began remaining (Open earliest fixed) = false
is_begun began remaining (Begun other rest) = began == other && remaining == rest
is_begun began remaining (Done ended) = false

-- a state is that of an activity that is done
abbrev pub is_done : ℕ → State → Bool
is_done ended (Open earliest fixed) = false
is_done ended (Begun began remaining) = false
is_done ended (Done other) = ended == other

abbrev pub same_state : State → State → Bool
same_state (Open earliest fixed) b = is_open earliest fixed b
same_state (Begun began remaining) b = is_begun began remaining b
same_state (Done ended) b = is_done ended b

abbrev pub same_absence : Absence → Absence → Bool
same_absence a b = a.resource == b.resource && (a.from == b.from && (a.until == b.until
    && a.amount == b.amount))

abbrev pub rows_of : Week → List (List ℕ)
rows_of week = map (λ row. row.items) week.needs.items

abbrev pub same_week : Week → Week → Bool
same_week a b = same_numbers a.durations.items b.durations.items
    && (pointwise same_arc a.arcs.items b.arcs.items
    && (pointwise same_numbers (rows_of a) (rows_of b)
    && (same_numbers a.capacities.items b.capacities.items
    && (pointwise same_state a.states.items b.states.items
    && (pointwise same_instant a.dues.items b.dues.items
    && (pointwise same_absence a.absences.items b.absences.items && a.today == b.today))))))

abbrev pub same_list : ListedWeek → ListedWeek → Bool
same_list a b = same_table a.table b.table && same_week a.week b.week
