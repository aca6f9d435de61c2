-- The text of a plan of a list, and its table with the resources and the predecessors.
use Rattle.std.specs.Prelude.{ℕ, List, Option, Some, None}
use Rattle.plan_formats.specs.IdTables.{with_ids}
use Rattle.plan_formats.specs.TableFormats.{format_text}
use Rattle.plan_formats.specs.TableText.{text_of}
use Rattle.plan_formats.specs.Tables.{Table}
use Rattle.plan_formats.specs.declared.format.Format.{Format}
use Rattle.plan_views.specs.LinkColumns.{Links, with_links}
use Rattle.plan_weekfile.specs.Links.{week_links}
use Rattle.plan_weeklist.specs.declared.listed.ListedWeek.{ListedWeek}
use Rattle.plan_weeks.specs.WeekTables.{ids_from, listed_view, named, week_view}
use Rattle.plan_weeks.specs.declared.planning.WeekPlan.{WeekPlan}

-- the table of a plan, with the ids, the names, the resources and the predecessors of the
-- activities
abbrev pub linked_view : List Links → ListedWeek → WeekPlan → Table
linked_view links listed plan =
    with_ids (ids_from 2 listed.table.activities) (with_links links
    (named listed.table.activities (week_view listed.week plan)))

-- the text of a plan as CSV or JSON
abbrev pub formatted : Format → ListedWeek → WeekPlan → List ℕ
formatted format listed plan = format_text format (linked_view
    (week_links listed.table.resources (ids_from 2 listed.table.activities) listed.week)
    listed plan)

-- the text of a plan
abbrev pub plan_text : Option Format → ListedWeek → WeekPlan → List ℕ
plan_text None listed plan =
    text_of (listed_view listed.table.activities listed.week plan)
plan_text (Some format) listed plan = formatted format listed plan
