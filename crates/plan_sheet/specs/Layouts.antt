-- The contents of a sheet and their lines (docs/definitions.md, "Sheets").
use Rattle.std.specs.Prelude.{ℕ, ◌+◌, Bool, true, false, nat_lt, if◌then◌else◌}
use Rattle.std.specs.Prelude.{List, [], ◌∷◌, map}
use Rattle.std.specs.List.{flat_map, range_with_len}
use Rattle.plan_net.specs.Network as networks
use Rattle.plan_sgs.specs.Instances.{Planned}
use Rattle.plan_shop.specs.Shop.{JobShop, count_steps}
use Rattle.plan_table.specs.Names.{Name}
use Rattle.plan_sheet.specs.Bars.{activity_bar, step_bar}
use Rattle.plan_sheet.specs.Names.{is_shown}
use Rattle.plan_sheet.specs.declared.bars.Bar.{Bar}
use Rattle.plan_sheet.specs.declared.layouts.Layout as declared
use Rattle.plan_sheet.specs.declared.layouts.Layout.TheVariants as kept

-- the activities of a project, or the steps of a job shop in lines for its jobs or for its machines,
-- perhaps without the steps that take no time
pub data Layout : Type 0 where
  activities : Planned → Layout
  steps : JobShop → Bool → Bool → Layout

-- the same, as the program refers to it
abbrev pub layout_of : declared.Layout → Layout
layout_of (kept.Activities i) = activities i.now
layout_of (kept.Steps s by_job brief) = steps s.now by_job brief

-- the number of its activities or steps
abbrev pub count_of : Layout → ℕ
count_of (activities i) = networks.count_of i.project.network
count_of (steps s by_job brief) = count_steps s

-- the bar of activity k + 1 or of flat step k
abbrev pub bar_at : Layout → List ℕ → ℕ → Bar
bar_at (activities i) starts k = activity_bar i.project.network starts (k + 1)
bar_at (steps s by_job brief) starts k = step_bar s starts by_job k

-- all bars of a schedule
abbrev pub bars_of : Layout → List ℕ → List Bar
bars_of l starts = map (bar_at l starts) (range_with_len 0 (count_of l))

-- the ids of its bars: those of activities; steps have none
abbrev pub bar_ids : Layout → List Name → List Name
bar_ids (activities i) ids = ids
bar_ids (steps s by_job brief) ids = []

-- a bar is shown: that of an activity if its number is, that of a step if it takes time or if all
-- steps are shown
abbrev pub shows : Layout → List Name → Bar → Bool
shows (activities i) ids bar = is_shown ids bar.number
shows (steps s by_job brief) ids bar = if brief then nat_lt bar.from bar.to else true

-- a bar, if it is shown
abbrev pub shown_bar : Layout → List Name → Bar → List Bar
shown_bar l ids bar = if shows l ids bar then bar ∷ [] else []

-- the bars that are shown
abbrev pub shown_bars : Layout → List Name → List Bar → List Bar
shown_bars l ids bars = flat_map (shown_bar l ids) bars

-- the number of the first line, and the number of lines
abbrev pub all_lines : Layout → ℕ × ℕ
all_lines (activities i) = (1, networks.count_of i.project.network)
all_lines (steps s by_job brief) = if by_job then (1, s.jobs) else (0, s.machines)

-- the number of line k from a first one on, if it is shown
abbrev pub shown_line : List Name → ℕ → ℕ → List ℕ
shown_line ids first k = if is_shown ids (first + k) then (first + k) ∷ [] else []

-- the numbers of the lines that are shown
abbrev pub lines_of : Layout → List Name → List ℕ
lines_of l ids =
    flat_map (shown_line (bar_ids l ids) (all_lines l).0) (range_with_len 0 (all_lines l).1)

-- the names of the lines, of the bars and of the machines, by the names of activities and resources,
-- or by those of machines and orders
abbrev pub row_names : Layout → List Name → List Name → List Name
row_names (activities i) lines legend = lines
row_names (steps s by_job brief) lines legend = if by_job then legend else lines

abbrev pub bar_names : Layout → List Name → List Name → List Name
bar_names (activities i) lines legend = lines
bar_names (steps s by_job brief) lines legend = legend

abbrev pub machine_names : Layout → List Name → List Name
machine_names (activities i) lines = []
machine_names (steps s by_job brief) lines = lines

-- the bars are those of steps
abbrev pub has_machines : Layout → Bool
has_machines (activities i) = false
has_machines (steps s by_job brief) = true
