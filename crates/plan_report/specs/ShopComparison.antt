-- The comparison of two schedules of a job shop (docs/definitions.md, "Reports"). Steps have flat
-- numbers from 0; jobs and the steps of a job are shown by their numbers from 1, machines from 0.
use Rattle.std.specs.Prelude.{◌≡◌, ℕ, ◌+◌, ◌/◌, ◌%◌, List, [], ◌∷◌, ◌++◌, get_or, slice_index}
use Rattle.std.specs.Prelude.{codes}
use Rattle.std.specs.Fmt.{decimal}
use Rattle.plan_orlib.specs.declared.steps.Step.{Step}
use Rattle.plan_sgs.specs.Problem.{makespan}
use Rattle.plan_sgs.specs.Verdicts.{IsFirstVerdict}
use Rattle.plan_sgs.specs.declared.verdict.Verdict.{Verdict}
use Rattle.plan_shop.specs.Shop.{JobShop, count_steps, idle, problem_of}
use Rattle.plan_gantt.specs.Column.{column, number_column, number_columns, lines_from}
use Rattle.plan_report.specs.Comparison.{shift_text}
use Rattle.plan_report.specs.VerdictText.{shop_sentence_of}

-- the heading
abbrev pub shop_comparison_heading : List ℕ
shop_comparison_heading = codes " job    step    mach       A       B   shift\n"

-- the line of step x, by the number of machines: its job, its number in the job, its machine, its
-- starts in both schedules, and the shift from the first to the second
abbrev pub moved_line : ℕ → Step → ℕ → ℕ → ℕ → List ℕ
moved_line machines step before after x =
    number_column 4 (x / machines + 1)
    ++ number_columns ((x % machines + 1) ∷ step.machine ∷ before ∷ after ∷ [])
    ++ column 8 (shift_text before after) ++ codes "\n"

-- the line of a step by its flat number
unfoldable pub shop_shift_line : JobShop → List ℕ → List ℕ → ℕ → List ℕ
shop_shift_line s a b x =
    moved_line s.machines (get_or s.steps x idle) (slice_index a x) (slice_index b x) x

-- the line of a schedule: its name, its makespan, and the verdict on it
abbrev pub shop_summary_line : JobShop → List ℕ → ℕ → Verdict → List ℕ
shop_summary_line s name makespan verdict =
    name ++ codes " makespan " ++ decimal makespan ++ codes ": " ++ shop_sentence_of s verdict
    ++ codes "\n"

-- the comparison: its heading, a line for each step in flat order, and a line for each schedule
abbrev pub shop_comparison_text : JobShop → List ℕ → List ℕ → Verdict → Verdict → List ℕ
shop_comparison_text s a b verdict_a verdict_b =
    shop_comparison_heading ++ lines_from (shop_shift_line s a b) 0 (count_steps s)
    ++ shop_summary_line s (codes "A") (makespan (problem_of s) a) verdict_a
    ++ shop_summary_line s (codes "B") (makespan (problem_of s) b) verdict_b

-- a text is the comparison of two schedules, with the first verdict on each
pub record IsShopComparison (s : JobShop) (a b text : List ℕ) : Type 0 where
  pub verdict_a : Verdict
  pub first_a : IsFirstVerdict (problem_of s) a verdict_a
  pub verdict_b : Verdict
  pub first_b : IsFirstVerdict (problem_of s) b verdict_b
  pub shown : text ≡ shop_comparison_text s a b verdict_a verdict_b
