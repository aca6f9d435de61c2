-- The comparison of two schedules of a project (docs/definitions.md, "Reports").
use Rattle.std.specs.Prelude.{◌≡◌, ℕ, ◌-◌, if◌then◌else◌, List, ◌++◌, nat_lt, codes}
use Rattle.std.specs.Fmt.{decimal}
use Rattle.plan_net.specs.Network.{count_of}
use Rattle.plan_sgs.specs.Problem.{makespan}
use Rattle.plan_sgs.specs.Instances.{Planned, problem_of}
use Rattle.plan_sgs.specs.Verdicts.{IsFirstVerdict}
use Rattle.plan_sgs.specs.declared.verdict.Verdict.{Verdict}
use Rattle.plan_gantt.specs.Column.{column, number_column, lines_from}
use Rattle.plan_gantt.specs.ScheduleTable.{start_of}
use Rattle.plan_report.specs.VerdictText.{sentence_of}

-- the heading
abbrev pub comparison_heading : List ℕ
comparison_heading = codes " act       A       B   shift\n"

-- the shift from start a to start b: a number of time units with its sign, or 0
abbrev pub shift_text : ℕ → ℕ → List ℕ
shift_text a b =
    if nat_lt a b then codes "+" ++ decimal (b - a)
    else if nat_lt b a then codes "-" ++ decimal (a - b) else codes "0"

-- the line of activity j: its number, its start in both schedules, and the shift from the first to
-- the second
unfoldable pub shift_line : List ℕ → List ℕ → ℕ → List ℕ
shift_line a b j =
    number_column 4 j ++ number_column 8 (start_of a j) ++ number_column 8 (start_of b j)
    ++ column 8 (shift_text (start_of a j) (start_of b j)) ++ codes "\n"

-- the line of a schedule: its name, its makespan, and the verdict on it
abbrev pub summary_line : List ℕ → ℕ → Verdict → List ℕ
summary_line name makespan verdict =
    name ++ codes " makespan " ++ decimal makespan ++ codes ": " ++ sentence_of verdict
    ++ codes "\n"

-- the comparison: its heading, a line for each activity from 1 on, and a line for each schedule
abbrev pub comparison_text : Planned → List ℕ → List ℕ → Verdict → Verdict → List ℕ
comparison_text i a b verdict_a verdict_b =
    comparison_heading ++ lines_from (shift_line a b) 1 (count_of i.project.network)
    ++ summary_line (codes "A") (makespan (problem_of i) a) verdict_a
    ++ summary_line (codes "B") (makespan (problem_of i) b) verdict_b

-- a text is the comparison of two schedules, with the first verdict on each
pub record IsComparison (i : Planned) (a b text : List ℕ) : Type 0 where
  pub verdict_a : Verdict
  pub first_a : IsFirstVerdict (problem_of i) a verdict_a
  pub verdict_b : Verdict
  pub first_b : IsFirstVerdict (problem_of i) b verdict_b
  pub shown : text ≡ comparison_text i a b verdict_a verdict_b
