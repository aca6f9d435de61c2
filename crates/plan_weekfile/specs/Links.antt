-- The resources and the predecessors of the activities of a week.
use Rattle.std.specs.Prelude.{ℕ, ◌+◌, ◌^◌, ◌-◌, List, [], get_or, length, map, min}
use Rattle.std.specs.List.{range_with_len}
use Rattle.plan_kernel.specs.declared.input.Arc.{Arc}
use Rattle.plan_table.specs.Names.{Name}
use Rattle.plan_table.specs.Table.{Resource}
use Rattle.plan_views.specs.LinkColumns.{Links, needs_text, predecessors_text}
use Rattle.plan_week.specs.declared.week.Week.{Week}
use Rattle.plan_weekfile.specs.Weeks.{names_from}

-- the number of the activity at a place: the first activity is 2, as in a project file
abbrev pub number_of : ℕ → ℕ
number_of k = min (k + 2) (2 ^ 32 - 1)

abbrev pub numbered : Arc → ℕ × ℕ
numbered arc = (number_of arc.from, number_of arc.to)

-- the needs of an activity, none if there is no such activity
abbrev pub needs_at : Week → ℕ → List ℕ
needs_at week k = get_or (map (λ needs. needs.items) week.needs.items) k []

-- the needs and the predecessors of activity k
abbrev pub links_at : List Name → List Name → List (ℕ × ℕ) → Week → ℕ → Links
links_at resources ids arcs week k = record {
  number = number_of k;
  resources = needs_text resources (needs_at week k);
  predecessors = predecessors_text ids (number_of k) arcs;
}

-- those of all activities of a week, by the names of its resources and the ids of its activities
abbrev pub week_links : List Resource → List Name → Week → List Links
week_links resources ids week =
    map (links_at (names_from 1 resources) ids (map numbered week.arcs.items) week)
    (range_with_len 0 (length week.durations.items))
