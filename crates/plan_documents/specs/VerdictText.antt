-- Verdicts on starts as a line (docs/definitions.md, "Runs").
use Rattle.std.specs.Prelude.{ℕ, List, ◌++◌, codes}
use Rattle.plan_sgs.specs.declared.verdict.Verdict.{Verdict}
use Rattle.plan_report.specs.VerdictText.{sentence_of}

-- the sentence of a verdict, with its end of line
abbrev pub verdict_text_of : Verdict → List ℕ
verdict_text_of v = sentence_of v ++ codes "\n"

-- the error line of infeasible starts: the code, a blank, and the sentence of their verdict
abbrev pub infeasible_line : List ℕ → List ℕ
infeasible_line sentence = codes "S10 " ++ sentence
