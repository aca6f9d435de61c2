-- Comparisons of two schedules.
use Rattle.std.proofs.Common.{◌≡◌, inl, inr, ℕ, List, [], ◌∷◌, ◌++◌, sym, ap, ◌∙◌, subst, append_assoc, codes}
use denote.Ref.{Bor}
use Rattle.plan_report.specs.Sheet.{Sheet}
use Rattle.plan_report.specs.StartsText.{SaysStarts}
use Rattle.plan_errors.specs.Codes.{name_of}
use Rattle.plan_errors.specs.Faults.{refusal_line}
use Rattle.plan_errors.specs.Output.{Refuses}
use Rattle.plan_errors.specs.Parts.{parts_text}
use Rattle.plan_errors.specs.declared.codes.Code.{Code}
use Rattle.plan_errors.specs.declared.fault.CliFault.{CliFault}
use Rattle.plan_errors.specs.declared.fault.CliFault.TheVariants as cli
use Rattle.plan_errors.specs.declared.parts.Part.{Part}
use Rattle.plan_errors.specs.declared.parts.Part.TheVariants as part
use Rattle.plan_errors.proofs.PartLemmas.{parts_push}
use Rattle.plan_cli.specs.CompareRun.{named_line, IsNamedFault, TellsNoStartsOf, TellsNoPair}
use Rattle.plan_documents.specs.Starts.{TellsNoStarts}
use Rattle.plan_documents.proofs.ErrorLemmas.{refuses_as}

-- the line of a refusal with one more part, the name of a schedule
pub named_parts : (code : Code) (parts : List Part) (name : Bor (List ℕ))
    → name_of code ++ parts_text (parts ++ part.Words name ∷ []) ≡ named_line name.now (name_of code ++ parts_text parts)
named_parts code parts name =
    ap (λ (tail : List ℕ). name_of code ++ tail) (parts_push parts (part.Words name))
    ∙ sym (append_assoc (name_of code) (parts_text parts) (codes " " ++ name.now))
    ∙ sym (append_assoc (name_of code ++ parts_text parts) (codes " ") name.now)

-- the error of starts with the name of their schedule
pub named_refuses : (name : List ℕ) (sheet : Sheet) (text : List ℕ) (e named : CliFault)
    → Refuses (TellsNoStarts sheet text) e → IsNamedFault name e named
    → Refuses (TellsNoStartsOf name sheet text) named
named_refuses name sheet text (cli.Refused refusal) named told is =
    refuses_as (λ said. said ≡ named_line name (refusal_line refusal)) (TellsNoStartsOf name sheet text) named
    (λ said same. (refusal_line refusal, told, same)) is
named_refuses name sheet text cli.Memory named told is =
    subst (λ (f : CliFault). Refuses (TellsNoStartsOf name sheet text) f) (sym is) tt
named_refuses name sheet text (cli.Input unread) named told is = absurd told
named_refuses name sheet text cli.Output named told is = absurd told

-- the starts of schedule A are refused
pub no_first : (sheet : Sheet) (first second : List ℕ) (e : CliFault)
    → Refuses (TellsNoStartsOf (codes "A") sheet first) e → Refuses (TellsNoPair sheet first second) e
no_first sheet first second e t =
    refuses_as (TellsNoStartsOf (codes "A") sheet first) (TellsNoPair sheet first second) e (λ line tells. inl tells) t

-- the starts of schedule B are refused
pub no_second : (sheet : Sheet) (first second a : List ℕ) (e : CliFault) → SaysStarts sheet first a
    → Refuses (TellsNoStartsOf (codes "B") sheet second) e → Refuses (TellsNoPair sheet first second) e
no_second sheet first second a e said t =
    refuses_as (TellsNoStartsOf (codes "B") sheet second) (TellsNoPair sheet first second) e (λ line tells. inr (a, said, tells)) t
