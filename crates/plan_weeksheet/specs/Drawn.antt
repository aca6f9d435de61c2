-- The project of the rectangles of a chart, and their starts.
use Rattle.std.specs.Prelude.{ℕ, ◌&&◌, Bool, false, nat_le, min, List, [], ◌∷◌, ◌++◌, codes}
use Rattle.std.specs.Prelude.{length, map, slice_index}
use Rattle.std.specs.List.{list_all, range_with_len, sum_by}
use Rattle.plan_net.specs.Limits.{longest_duration, longest_sum}
use Rattle.plan_psplib.specs.Head.{most_resources}
use Rattle.plan_psplib.specs.Tokens.{greatest}
use Rattle.plan_sgs.specs.Instances.{Planned, planned}
use Rattle.plan_table.specs.Jobs.{capacities_of, project_of}
use Rattle.plan_table.specs.Limits.{most_rows}
use Rattle.plan_table.specs.Table.{Activity, Resource, Table}
use Rattle.plan_weeksheet.specs.Rectangles.{Rectangle}

-- the drawn need of resource k: at most its capacity
abbrev pub drawn_need : List ℕ → List ℕ → ℕ → ℕ
drawn_need capacities needs k = min (slice_index needs k) (slice_index capacities k)

-- the drawn needs of all resources
abbrev pub drawn_needs : List ℕ → List ℕ → List ℕ
drawn_needs capacities needs =
    map (drawn_need capacities needs) (range_with_len 0 (length capacities))

-- a rectangle as the row of a list: an activity without predecessors
abbrev pub row_of : List ℕ → Rectangle → Activity
row_of capacities r = record {
  line = 0;
  id = [];
  name = [];
  duration = r.lasts;
  predecessors = [];
  needs = drawn_needs capacities r.needs;
}

-- a resource with this capacity
abbrev pub supply_of : ℕ → Resource
supply_of capacity = record { name = codes "R"; capacity = capacity }

-- the list of rectangles
abbrev pub list_of : List ℕ → List Rectangle → Table
list_of capacities rectangles = record {
  own_ids = false;
  activities = map (row_of capacities) rectangles;
  resources = map supply_of capacities;
}

-- the capacities of its project
abbrev pub drawn_capacities : List ℕ → List ℕ
drawn_capacities capacities = capacities_of (map supply_of capacities)

-- the project of that list: the rectangles one after another, between two dummies
abbrev pub drawn_project : List ℕ → List Rectangle → Planned
drawn_project capacities rectangles =
    planned (project_of (list_of capacities rectangles)) (drawn_capacities capacities)

-- the starts of its activities; the last dummy is at the makespan
abbrev pub drawn_starts : List Rectangle → ℕ → List ℕ
drawn_starts rectangles makespan = 0 ∷ map (λ r. r.from) rectangles ++ makespan ∷ []

-- the latest start of a chart, in time units
abbrev pub latest : ℕ
latest = 10000000

-- a rectangle is within the limits of a chart
abbrev pub is_drawable : Rectangle → Bool
is_drawable r = nat_le r.lasts longest_duration && nat_le r.from latest

-- the number of rectangles and of resources is within the limits of a project file
abbrev pub are_few : List ℕ → List Rectangle → Bool
are_few capacities rectangles =
    nat_le (length rectangles) most_rows && nat_le (length capacities) most_resources

-- so are the capacities, the times, and the sum of all durations
abbrev pub are_small : List ℕ → List Rectangle → Bool
are_small capacities rectangles =
    list_all (λ capacity. nat_le capacity greatest) capacities
    && (list_all is_drawable rectangles && nat_le (sum_by (λ r. r.lasts) rectangles) longest_sum)

-- a chart is within the limits
abbrev pub is_within : List ℕ → List Rectangle → ℕ → Bool
is_within capacities rectangles makespan =
    are_few capacities rectangles && (are_small capacities rectangles && nat_le makespan latest)
