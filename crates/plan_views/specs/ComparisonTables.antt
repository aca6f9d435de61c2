-- The comparison of two schedules as a value (docs/definitions.md, "Tables and charts").
use Rattle.std.specs.Prelude.{◌≡◌, ℕ, ◌-◌, if◌then◌else◌, List, [], ◌∷◌, ◌++◌, nat_lt, codes}
use Rattle.std.specs.Prelude.{slice_index}
use Rattle.plan_sgs.specs.Problem as problems
use Rattle.plan_sgs.specs.Verdicts.{IsFirstVerdict}
use Rattle.plan_sgs.specs.declared.verdict.Verdict.{Verdict}
use Rattle.plan_report.specs.Comparison.{IsComparison}
use Rattle.plan_report.specs.ShopComparison.{IsShopComparison}
use Rattle.plan_report.specs.VerdictText.{shop_sentence_of}
use Rattle.plan_report.specs.VerdictText as verdicts
use Rattle.plan_formats.specs.Cells.{Cell, number, above, below}
use Rattle.plan_formats.specs.Columns.{Column}
use Rattle.plan_formats.specs.TableLines.{Line, summary}
use Rattle.plan_formats.specs.Tables.{Table}
use Rattle.plan_views.specs.Headings.{right_column}
use Rattle.plan_views.specs.Plans.{Plan, project, shop, count_of, problem_of, placed_columns}
use Rattle.plan_views.specs.Plans.{placed_front_of}
use Rattle.plan_views.specs.Rows.{rows_from}

-- the columns of the starts in both schedules, and of the shift
abbrev pub shift_columns : List Column
shift_columns = right_column (codes "A") (codes "start_a") 8
    ∷ right_column (codes "B") (codes "start_b") 8
    ∷ right_column (codes "shift") (codes "shift") 8 ∷ []

-- the columns
abbrev pub comparison_columns : Plan → List Column
comparison_columns p = placed_columns p ++ shift_columns

-- the shift from start a to start b
abbrev pub shift_of : ℕ → ℕ → Cell
shift_of a b =
    if nat_lt a b then above (b - a) else if nat_lt b a then below (a - b) else number 0

-- row k: the numbers of its activity or step, its start in both schedules, and the shift from the
-- first to the second
unfoldable pub comparison_row : Plan → List ℕ → List ℕ → ℕ → List Cell
comparison_row p a b k =
    placed_front_of p k ++ number (slice_index a k) ∷ number (slice_index b k)
    ∷ shift_of (slice_index a k) (slice_index b k) ∷ []

-- the sentence of a verdict
abbrev pub sentence_of : Plan → Verdict → List ℕ
sentence_of (project i) verdict = verdicts.sentence_of verdict
sentence_of (shop s) verdict = shop_sentence_of s verdict

-- the line of a schedule: its name, its makespan, and the verdict on it
abbrev pub summary_of : Plan → List ℕ → ℕ → Verdict → Line
summary_of p name makespan verdict = summary name makespan (sentence_of p verdict)

-- the lines of both schedules
abbrev pub summaries_of : Plan → List ℕ → List ℕ → Verdict → Verdict → List Line
summaries_of p a b verdict_a verdict_b =
    summary_of p (codes "A") (problems.makespan (problem_of p) a) verdict_a
    ∷ summary_of p (codes "B") (problems.makespan (problem_of p) b) verdict_b ∷ []

-- the table: a row for each activity or step, and a line for each schedule below
abbrev pub comparison_view_of : Plan → List ℕ → List ℕ → Verdict → Verdict → Table
comparison_view_of p a b verdict_a verdict_b = record {
  above = [];
  columns = comparison_columns p;
  rows = rows_from (comparison_row p a b) 0 (count_of p);
  below = summaries_of p a b verdict_a verdict_b;
}

-- a table is the comparison of two schedules, with the first verdict on each
pub record IsComparisonView (p : Plan) (a b : List ℕ) (table : Table) : Type 0 where
  pub verdict_a : Verdict
  pub first_a : IsFirstVerdict (problem_of p) a verdict_a
  pub verdict_b : Verdict
  pub first_b : IsFirstVerdict (problem_of p) b verdict_b
  pub shown : table ≡ comparison_view_of p a b verdict_a verdict_b

-- a text is the comparison
abbrev pub Compares : Plan → List ℕ → List ℕ → List ℕ → Type 0
Compares (project i) a b text = IsComparison i a b text
Compares (shop s) a b text = IsShopComparison s a b text
