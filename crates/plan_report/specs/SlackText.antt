-- The table of slacks (docs/definitions.md, "Reports").
use Rattle.std.specs.Prelude.{◌≡◌, ℕ, ◌+◌, ◌==◌, List, [], ◌∷◌, ◌++◌, Option, Some, None, codes}
use Rattle.plan_net.specs.Network.{Net, count_of, duration_of}
use Rattle.plan_sgs.specs.Instances.{Planned, problem_of}
use Rattle.plan_gantt.specs.Column.{number_column, number_columns, lines_from}
use Rattle.plan_gantt.specs.DateTable.{line_end}
use Rattle.plan_gantt.specs.FaultText.{spaced_numbers}
use Rattle.plan_gantt.specs.ScheduleTable.{start_of}
use Rattle.plan_report.specs.Slack.{AreSlacks}
use Rattle.plan_report.specs.Chain.{IsChain, NoChain}

-- the heading
abbrev pub slack_heading : List ℕ
slack_heading = codes " act       d   start     end   slack\n"

-- the duration, the start, the end and the slack of activity j
abbrev pub times_of : Net → List ℕ → List ℕ → ℕ → List ℕ
times_of net starts slacks j =
    duration_of net j ∷ start_of starts j ∷ (start_of starts j + duration_of net j)
    ∷ start_of slacks j ∷ []

-- the line of activity j, with a star if it has no slack
unfoldable pub slack_line : Net → List ℕ → List ℕ → ℕ → List ℕ
slack_line net starts slacks j =
    number_column 4 j ++ number_columns (times_of net starts slacks j)
    ++ line_end (start_of slacks j == 0)

-- the last line: the chain, if there is one
abbrev pub chain_line : Option (List ℕ) → List ℕ
chain_line None = codes "no chain\n"
chain_line (Some chain) = codes "chain" ++ spaced_numbers chain ++ codes "\n"

-- the table of slacks: its heading, a line for each activity from 1 on, and the chain
abbrev pub slack_table_text : Net → List ℕ → List ℕ → Option (List ℕ) → List ℕ
slack_table_text net starts slacks chain =
    slack_heading ++ lines_from (slack_line net starts slacks) 1 (count_of net) ++ chain_line chain

-- a chain, or none if there is none
abbrev pub IsChainAnswer : Planned → List ℕ → List ℕ → Option (List ℕ) → Type 0
IsChainAnswer i starts slacks None = NoChain (problem_of i) starts slacks
IsChainAnswer i starts slacks (Some chain) = IsChain (problem_of i) starts slacks chain

-- a text is the table of the slacks of a schedule
pub record IsSlackText (i : Planned) (starts text : List ℕ) : Type 0 where
  pub slacks : List ℕ
  pub are : AreSlacks (problem_of i) starts slacks
  pub chain : Option (List ℕ)
  pub answer : IsChainAnswer i starts slacks chain
  pub shown : text ≡ slack_table_text i.project.network starts slacks chain
