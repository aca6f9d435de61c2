-- The errors of lists and of starts with words behind their lines.
use Rattle.std.proofs.Common.{◌≡◌, ℕ, List, [], ◌∷◌, ◌++◌, sym, ap, ◌∙◌, subst, append_assoc, codes}
use denote.Ref.{Bor}
use Rattle.plan_documents.proofs.ErrorLemmas.{refuses_as}
use Rattle.plan_errors.proofs.PartLemmas.{parts_push}
use Rattle.plan_errors.specs.Codes.{name_of}
use Rattle.plan_errors.specs.Faults.{refusal_line}
use Rattle.plan_errors.specs.Output.{Refuses}
use Rattle.plan_errors.specs.Parts.{parts_text}
use Rattle.plan_errors.specs.declared.codes.Code.{Code}
use Rattle.plan_errors.specs.declared.fault.CliFault.{CliFault}
use Rattle.plan_errors.specs.declared.fault.CliFault.TheVariants as cli
use Rattle.plan_errors.specs.declared.parts.Part.{Part}
use Rattle.plan_errors.specs.declared.parts.Part.TheVariants as part
use Rattle.plan_weekcompare.specs.Lines.{IsLineAs, IsShownAs, named_line}

-- the line of an error with words as one more part
pub named_parts : (code : Code) (parts : List Part) (words : Bor (List ℕ))
    → name_of code ++ parts_text (parts ++ part.Words words ∷ []) ≡ named_line words.now (name_of code ++ parts_text parts)
named_parts code parts words =
    ap (λ (tail : List ℕ). name_of code ++ tail) (parts_push parts (part.Words words))
    ∙ sym (append_assoc (name_of code) (parts_text parts) (codes " " ++ words.now))
    ∙ sym (append_assoc (name_of code ++ parts_text parts) (codes " ") words.now)

-- an error that is shown in another way refuses with such lines
pub refuses_shown : (view : List ℕ → List ℕ) (IsLine : List ℕ → Type 0) (e shown : CliFault)
    → Refuses IsLine e → IsShownAs view e shown → Refuses (IsLineAs view IsLine) shown
refuses_shown view IsLine (cli.Refused refusal) shown told is =
    refuses_as (λ line. line ≡ view (refusal_line refusal)) (IsLineAs view IsLine) shown
    (λ line same. (refusal_line refusal, told, same)) is
refuses_shown view IsLine cli.Memory shown told is =
    subst (λ (f : CliFault). Refuses (IsLineAs view IsLine) f) (sym is) tt
refuses_shown view IsLine (cli.Input unread) shown told is = absurd told
refuses_shown view IsLine cli.Output shown told is = absurd told
