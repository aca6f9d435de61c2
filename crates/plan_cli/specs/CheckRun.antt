-- The output of `plan check` for the bytes that it reads (docs/definitions.md, "Runs").
use Rattle.std.specs.Prelude.{◌≡◌, ℕ, List, [], ◌++◌, codes}
use Rattle.plan_sgs.specs.Problem.{IsFeasible}
use Rattle.plan_sgs.specs.Verdicts.{IsFirstVerdict}
use Rattle.plan_sgs.specs.declared.verdict.Verdict.{Verdict}
use Rattle.plan_report.specs.StartsText.{SaysStarts}
use Rattle.plan_report.specs.VerdictText as verdicts
use Rattle.plan_documents.specs.Documents.{problem_of, sheet_of}
use Rattle.plan_documents.specs.Starts.{TellsNoStarts}
use Rattle.plan_documents.specs.VerdictText.{infeasible_line}
use Rattle.plan_cli.specs.Views.{View, named_text, plain_text, text_in}
use Rattle.plan_cli.specs.declared.tasks.Rows.{Rows}
use Rattle.plan_cli.specs.declared.tasks.Rows.TheVariants as rows
use Rattle.plan_documents.specs.declared.documents.Plan.{Plan}
use Rattle.plan_documents.specs.declared.documents.Plan.TheVariants as plan

-- the sentence of a verdict on the starts of a plan
abbrev pub sentence_of : Plan → Verdict → List ℕ
sentence_of (plan.Project i ids) verdict = verdicts.sentence_of verdict
sentence_of (plan.Shop s) verdict = verdicts.shop_sentence_of s verdict

-- the first verdict on the starts in a text
pub record IsVerdictOn (listed : List ℕ) (p : Plan) (verdict : Verdict) : Type 0 where
  pub starts : List ℕ
  pub said : SaysStarts (sheet_of p) listed starts
  pub first : IsFirstVerdict (problem_of p) starts verdict

-- the text of a verdict with these rows, which have no names
abbrev pub rows_text : Rows → View → List ℕ
rows_text rows.Plain view = plain_text view
rows_text rows.Named view = named_text [] [] [] view
rows_text rows.Listed view = named_text [] [] [] view
rows_text (rows.In format) view = text_in format [] [] [] view

-- a text gives the first verdict on starts
pub record TellsVerdict (p : Plan) (starts text : List ℕ) : Type 0 where
  pub verdict : Verdict
  pub first : IsFirstVerdict (problem_of p) starts verdict
  pub told : text ≡ sentence_of p verdict ++ codes "\n"

-- a text gives the first verdict on the starts in a text
abbrev pub TellsVerdictOn : List ℕ → Plan → List ℕ → Type 0
TellsVerdictOn listed p text =
    (starts : List ℕ) × SaysStarts (sheet_of p) listed starts × TellsVerdict p starts text

-- a line gives the first check that a text of starts fails
abbrev pub TellsBadStarts : List ℕ → Plan → List ℕ → Type 0
TellsBadStarts listed p line = TellsNoStarts (sheet_of p) listed line

-- a line gives the first verdict on starts that aren't feasible
pub record TellsWhyInfeasible (p : Plan) (starts line : List ℕ) : Type 0 where
  pub infeasible : IsFeasible (problem_of p) starts → ⊥
  pub verdict : Verdict
  pub first : IsFirstVerdict (problem_of p) starts verdict
  pub told : line ≡ infeasible_line (sentence_of p verdict)
