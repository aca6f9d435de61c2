-- The line with the bounds of the least makespan above a table (docs/definitions.md, "Tables and
-- charts").
use Rattle.std.specs.Prelude.{ℕ, if◌then◌else◌, List, ◌∷◌, ◌++◌, nat_lt}
use Rattle.plan_exact.specs.declared.shop_solution.Solved.{Solved}
use Rattle.plan_exact.specs.declared.answer.Kind.{Kind}
use Rattle.plan_exact.specs.declared.answer.Kind.TheVariants as kind
use Rattle.plan_gantt.specs.BestText.{kind_line}
use Rattle.plan_formats.specs.TableLines.{Line, optimal, between, budget}
use Rattle.plan_formats.specs.Tables.{Table}
use Rattle.plan_views.specs.Plans.{Plan}
use Rattle.plan_views.specs.ScheduleTables.{schedule_view_of, schedule_text_of}

-- the line of a search within a budget
abbrev pub kind_line_of : Kind → ℕ → Line
kind_line_of kind.Optimal makespan = optimal makespan
kind_line_of kind.Budget makespan = budget makespan

-- the line of a lower bound and a makespan, which is the least one if they are equal
abbrev pub bound_line_of : ℕ → ℕ → Line
bound_line_of lower makespan =
    if nat_lt lower makespan then between lower makespan else optimal makespan

-- a table with a line above the others
abbrev pub with_line_of : Line → Table → Table
with_line_of line t = record {
  above = line ∷ t.above;
  columns = t.columns;
  rows = t.rows;
  below = t.below;
}

-- the table of the best schedule, and its text
abbrev pub best_view_of : Plan → Solved → Table
best_view_of p solved =
    with_line_of (kind_line_of solved.kind solved.schedule.makespan)
    (schedule_view_of p solved.schedule.starts.items solved.schedule.makespan)

abbrev pub best_text_of : Plan → Solved → List ℕ
best_text_of p solved = kind_line solved.kind solved.schedule.makespan
    ++ schedule_text_of p solved.schedule.starts.items solved.schedule.makespan
