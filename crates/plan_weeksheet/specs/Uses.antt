-- The use that the rectangles of a plan draw, and their ends.
use Rattle.std.specs.Prelude.{◌≡◌, ◌+◌, ◌≤◌, ◌<◌, ◌&&◌, ℕ, All, cond, length, List, nat_le, nat_lt}
use Rattle.std.specs.Prelude.{slice_index, sum_by}
use Rattle.plan_views.specs.LinkColumns.{Links}
use Rattle.plan_week.specs.Weeks.{IsWeekPlan, makespan_of, missing, needed, project_of}
use Rattle.plan_weeklist.specs.declared.listed.ListedWeek.{ListedWeek}
use Rattle.plan_weeks.specs.declared.planning.WeekPlan.{WeekPlan}
use Rattle.plan_weeksheet.specs.Rectangles.{Rectangle}
use Rattle.plan_weeksheet.specs.WeekRectangles.{week_rectangles}

-- the amount of a resource that a rectangle takes at an instant
abbrev pub takes : ℕ → ℕ → Rectangle → ℕ
takes t k r =
    cond (nat_le r.from t && nat_lt t (r.from + r.lasts)) (slice_index r.needs k) 0

-- the amount that rectangles take together
abbrev pub drawn_use : List Rectangle → ℕ → ℕ → ℕ
drawn_use rectangles t k = sum_by (takes t k) rectangles

-- From today to the end of a plan its rectangles take at each instant the needs of the activities
-- plus the missing amounts. A plan keeps this sum within the capacities.
unfoldable pub DrawsUse : Type 0
DrawsUse =
    (listed : ListedWeek) (links : List Links) (p : WeekPlan) (t k : ℕ)
    → IsWeekPlan listed.week p.starts.items → listed.week.today ≤ t → t < p.makespan
    → k < length (project_of listed.week).capacities
    → drawn_use (week_rectangles listed links p) t k
    ≡ needed listed.week p.starts.items t k + missing listed.week t k

-- a rectangle ends by an instant
abbrev pub EndsBy : ℕ → Rectangle → Type 0
EndsBy t r = r.from + r.lasts ≤ t

-- no rectangle ends after the plan
unfoldable pub EndsWithPlan : Type 0
EndsWithPlan =
    (listed : ListedWeek) (links : List Links) (p : WeekPlan)
    → p.makespan ≡ makespan_of listed.week p.starts.items
    → All (EndsBy p.makespan) (week_rectangles listed links p)
