-- The rectangles of a plan of a week: its activities that aren't done, and its absences.
use Rattle.std.specs.Prelude.{ℕ, ◌-◌, ◌==◌, if◌then◌else◌, nat_lt, min, List, [], ◌∷◌, ◌++◌}
use Rattle.std.specs.Prelude.{Option, Some, None, codes, get_or, length, map}
use Rattle.std.specs.List.{flat_map, range_with_len}
use Rattle.plan_kernel.specs.declared.input.Absence.{Absence}
use Rattle.plan_table.specs.Table.{Activity}
use Rattle.plan_views.specs.LinkColumns.{Links, no_links}
use Rattle.plan_week.specs.Weeks.{end_of}
use Rattle.plan_weekfile.specs.Links.{needs_at}
use Rattle.plan_weeklist.specs.declared.listed.ListedWeek.{ListedWeek}
use Rattle.plan_weeks.specs.WeekTables.{places}
use Rattle.plan_weeks.specs.declared.planning.WeekPlan.{WeekPlan}
use Rattle.plan_weekview.specs.WeekDays.{begins_at}
use Rattle.plan_weeksheet.specs.Rectangles.{Rectangle}

-- ---- activities

-- the activity at a place beyond the end of a list
abbrev pub no_activity : Activity
no_activity =
    record { line = 0; id = []; name = []; duration = 0; predecessors = []; needs = [] }

abbrev pub activity_at : ListedWeek → ℕ → Activity
activity_at listed k = get_or listed.table.activities k no_activity

-- the ids of the predecessors of the activity at a place
abbrev pub predecessors_at : List Links → ℕ → List ℕ
predecessors_at links k = (get_or links k (no_links 0)).predecessors

-- the rectangle of activity k from its begin to its end
abbrev pub rectangle_at : ListedWeek → List Links → ℕ → ℕ → ℕ → Rectangle
rectangle_at listed links k begin ends = record {
  id = (activity_at listed k).id;
  name = (activity_at listed k).name;
  predecessors = predecessors_at links k;
  from = begin;
  lasts = ends - begin;
  needs = needs_at listed.week k;
}

-- the rectangle of activity k from its shown begin, at the latest from its start in a plan; none if
-- its begin isn't known
abbrev pub rectangle_if : ListedWeek → List Links → ℕ → Option ℕ → ℕ → ℕ → List Rectangle
rectangle_if listed links k None start ends = []
rectangle_if listed links k (Some begin) start ends =
    rectangle_at listed links k (min begin start) ends ∷ []

-- The rectangle of activity k in a plan: from its start, or from the instant at which it began, to
-- its end. A done activity has none. (In a list, work can begin after today. It occupies its
-- resources from today on, and so it is drawn.)
abbrev pub activity_rectangle : ListedWeek → List Links → List ℕ → ℕ → List Rectangle
activity_rectangle listed links starts k =
    rectangle_if listed links k (begins_at listed.week starts k) (get_or starts k 0)
    (end_of listed.week starts k)

abbrev pub activity_rectangles : ListedWeek → List Links → List ℕ → List Rectangle
activity_rectangles listed links starts =
    flat_map (activity_rectangle listed links starts) (places listed.week)

-- ---- absences

-- the amount that an absence takes of resource k
abbrev pub missing_amount : Absence → ℕ → ℕ
missing_amount a k = if k == a.resource then a.amount else 0

-- the same of each of n resources
abbrev pub missing_amounts : ℕ → Absence → List ℕ
missing_amounts n a = map (missing_amount a) (range_with_len 0 n)

-- the rectangle of an absence of one of n resources: from its begin to its end, or to the end of
-- the plan if that is earlier
abbrev pub absence_part : ℕ → ℕ → Absence → Rectangle
absence_part n makespan a = record {
  id = codes "absence";
  name = [];
  predecessors = [];
  from = a.from;
  lasts = min a.until makespan - a.from;
  needs = missing_amounts n a;
}

-- the same; an absence that begins at the end of the plan or later has none
abbrev pub absence_rectangle : ℕ → ℕ → Absence → List Rectangle
absence_rectangle n makespan a =
    if nat_lt a.from makespan then absence_part n makespan a ∷ [] else []

abbrev pub absence_rectangles : ListedWeek → ℕ → List Rectangle
absence_rectangles listed makespan =
    flat_map (absence_rectangle (length listed.week.capacities.items) makespan)
    listed.week.absences.items

-- ---- both

-- the rectangles of a plan: those of the activities in the order of the list, then those of the
-- absences
abbrev pub week_rectangles : ListedWeek → List Links → WeekPlan → List Rectangle
week_rectangles listed links p =
    activity_rectangles listed links p.starts.items ++ absence_rectangles listed p.makespan
