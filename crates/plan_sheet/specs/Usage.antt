-- The use of a resource over time as a step chart (docs/definitions.md, "Sheets").
use Rattle.std.specs.Prelude.{ℕ, ◌+◌, ◌-◌, ◌*◌, ◌/◌, ◌==◌, if◌then◌else◌, nat_lt, List, [], ◌++◌, length, max, min, codes, slice_index}
use Rattle.std.specs.List.{flat_map, range_with_len}
use Rattle.std.specs.Fmt.{decimal}
use Rattle.jiff_core.specs.declared.civil.date.Date.{Date}
use Rattle.plan_sgs.specs.Instances.{Planned}
use Rattle.plan_table.specs.Names.{Name}
use Rattle.plan_sheet.specs.Axis.{begin_place}
use Rattle.plan_sheet.specs.Chart.{Chart, image_head}
use Rattle.plan_sheet.specs.Cuts.{cut}
use Rattle.plan_sheet.specs.Escape.{escaped}
use Rattle.plan_sheet.specs.Marks.{marks}
use Rattle.plan_sheet.specs.Names.{label}
use Rattle.plan_sheet.specs.Pieces.{counted}
use Rattle.plan_sheet.specs.Uses.{used_at, used_before, uses_of}
use Rattle.plan_sheet.specs.declared.styles.TheConstants.{CAPACITY_LINE, USE_FROM, USE_NAME, USE_TO}
use Rattle.plan_sheet.specs.declared.uses.Use.{Use}

-- the height of an amount: 108 for none, 28 for the capacity
unfoldable pub level : ℕ → ℕ → ℕ
level capacity amount = 108 - amount * 80 / max capacity 1

-- a step: along to its place, then to its height
unfoldable pub step : ℕ → ℕ → List ℕ
step x y = codes "H" ++ decimal x ++ codes "V" ++ decimal y

-- the step at instant t; nothing if the use stays as it was
abbrev pub step_at : ℕ → List Date → ℕ → ℕ → List Use → ℕ → List ℕ
step_at span days per_day capacity uses t =
    if used_at uses t == used_before uses t then []
    else step (begin_place span days per_day t) (level capacity (used_at uses t))

-- the steps of the instants before the makespan
abbrev pub steps_of : ℕ → List Date → ℕ → ℕ → List Use → ℕ → List ℕ
steps_of span days per_day capacity uses makespan = flat_map (step_at span days per_day capacity uses) (range_with_len 0 makespan)

-- the area below the steps, up to the end of the axis
unfoldable pub use_area : ℕ → List Date → ℕ → ℕ → List Use → ℕ → List ℕ
use_area span days per_day capacity uses makespan =
    USE_FROM.now ++ steps_of span days per_day capacity uses makespan ++ USE_TO.now

-- the line of the capacity, and the name of the resource beside the steps
unfoldable pub use_labels : ℕ → List ℕ → List ℕ
use_labels capacity name = counted CAPACITY_LINE.now capacity ++ USE_NAME.now ++ name ++ codes "</text></svg>\n"

-- the room of a resource's label, in columns of 0.6 em
abbrev pub use_room : ℕ
use_room = 27

-- the image of a resource with this label and its short form; the marks cover its use on days
-- without work
unfoldable pub use_image : ℕ → List Date → ℕ → List ℕ → List ℕ → ℕ → List Use → ℕ → List ℕ
use_image span days per_day name short capacity uses makespan =
    image_head 112 [] name ++ use_area span days per_day capacity uses makespan ++ marks span days 89
    ++ use_labels capacity short ++ codes "</svg>\n"

-- the image of resource k + 1
unfoldable pub use_figure : Chart → List Name → Planned → List ℕ → ℕ → ℕ → List ℕ
use_figure chart resources i starts makespan k =
    codes "<figure>\n"
    ++ use_image chart.span chart.days chart.per_day (escaped (label resources (k + 1)))
    (escaped (cut use_room (label resources (k + 1)))) (slice_index i.capacities k)
    (uses_of i starts (k + 1)) makespan
    ++ codes "</figure>\n"

-- the number of resources that are shown; a project has at most 16
abbrev pub resource_count : List ℕ → ℕ
resource_count capacities = min (length capacities) 1000

abbrev pub use_figures : Chart → List Name → Planned → List ℕ → ℕ → List ℕ
use_figures chart resources i starts makespan =
    flat_map (use_figure chart resources i starts makespan) (range_with_len 0 (resource_count i.capacities))

-- the use of all resources below a heading; nothing without resources, and for a makespan of more
-- than 100,000 time units, which has a hundred of them in each unit of the image
unfoldable pub use_section : Chart → List Name → Planned → List ℕ → ℕ → List ℕ
use_section chart resources i starts makespan =
    if nat_lt (resource_count i.capacities) 1 then []
    else if nat_lt 100000 makespan then []
    else codes "<h2>Resource use</h2>\n" ++ use_figures chart resources i starts makespan
