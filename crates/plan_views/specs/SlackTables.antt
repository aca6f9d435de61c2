-- The table of slacks as a value (docs/definitions.md, "Tables and charts").
use Rattle.std.specs.Prelude.{◌≡◌, ℕ, ◌+◌, ◌==◌, List, [], ◌∷◌, Option, codes}
use Rattle.plan_net.specs.Network.{Net, count_of, duration_of}
use Rattle.plan_sgs.specs.Instances.{Planned, problem_of}
use Rattle.plan_gantt.specs.ScheduleTable.{start_of}
use Rattle.plan_report.specs.Slack.{AreSlacks}
use Rattle.plan_report.specs.SlackText.{IsChainAnswer}
use Rattle.plan_formats.specs.Cells.{Cell, number, flag}
use Rattle.plan_formats.specs.Columns.{Column}
use Rattle.plan_formats.specs.TableLines as line
use Rattle.plan_formats.specs.Tables.{Table}
use Rattle.plan_views.specs.Headings.{activity_column, duration_column, start_column, end_column}
use Rattle.plan_views.specs.Headings.{right_column, mark_column}
use Rattle.plan_views.specs.Rows.{rows_from}

-- the columns
abbrev pub slack_columns : List Column
slack_columns = activity_column ∷ duration_column ∷ start_column ∷ end_column
    ∷ right_column (codes "slack") (codes "slack") 8 ∷ mark_column ∷ []

-- the row of activity j: its number, its duration, its start, its end, its slack, and a mark if it
-- has none
unfoldable pub slack_row : Net → List ℕ → List ℕ → ℕ → List Cell
slack_row net starts slacks j =
    number j ∷ number (duration_of net j) ∷ number (start_of starts j)
    ∷ number (start_of starts j + duration_of net j) ∷ number (start_of slacks j)
    ∷ flag (start_of slacks j == 0) ∷ []

-- the table: a row for each activity, and a chain below, if there is one
abbrev pub slack_view_of : Net → List ℕ → List ℕ → Option (List ℕ) → Table
slack_view_of net starts slacks chain = record {
  above = [];
  columns = slack_columns;
  rows = rows_from (slack_row net starts slacks) 1 (count_of net);
  below = line.chain chain ∷ [];
}

-- a table has the slacks of a schedule and a chain
pub record IsSlackView (i : Planned) (starts : List ℕ) (table : Table) : Type 0 where
  pub slacks : List ℕ
  pub are : AreSlacks (problem_of i) starts slacks
  pub chain : Option (List ℕ)
  pub answer : IsChainAnswer i starts slacks chain
  pub shown : table ≡ slack_view_of i.project.network starts slacks chain
