-- The calendar files of projects and job shops (docs/definitions.md, "Sheets").
use Rattle.std.specs.Prelude.{ℕ, ◌-◌, List, [], map, slice_get}
use Rattle.std.specs.List.{range_with_len}
use Rattle.plan_calendar.specs.WorkingDay.{Workdays}
use Rattle.plan_net.specs.Network.{count_of}
use Rattle.plan_sgs.specs.Instances.{Planned}
use Rattle.plan_sheet.specs.Bars.{greatest_end}
use Rattle.plan_sheet.specs.Feed.{AreEvents, Events, HasEventBeyond}
use Rattle.plan_sheet.specs.Layouts.{Layout, activities, steps, bars_of}
use Rattle.plan_sheet.specs.Moments.{day_count}
use Rattle.plan_sheet.specs.Parts.{EventNames, row_or_empty}

-- the amounts that an activity needs
abbrev pub needs_of : Planned → ℕ → List ℕ
needs_of i j = row_or_empty (slice_get i.project.needs (j - 1))

-- the amounts that all activities need, a row for each
abbrev pub all_needs : Planned → List (List ℕ)
all_needs i = map (needs_of i) (range_with_len 1 (count_of i.project.network))

-- the same for a project; a job shop has none
abbrev pub layout_needs : Layout → List (List ℕ)
layout_needs (activities i) = all_needs i
layout_needs (steps s by_job brief) = []

-- a text is the calendar file of a schedule: the wanted events of the bars that take time
abbrev pub IsIcs : List ℕ → EventNames → Layout → List ℕ → Events → Workdays → List ℕ → Type 0
IsIcs digest names l starts events calendar text =
    AreEvents (record { digest = digest; names = names; needs = layout_needs l }) events
    (bars_of l starts) calendar text

-- a day that it needs would be after the last date
abbrev pub IsIcsBeyond : Layout → List ℕ → Events → Workdays → Type 0
IsIcsBeyond l starts events calendar =
    HasEventBeyond calendar (day_count events.hours (greatest_end (bars_of l starts)))
