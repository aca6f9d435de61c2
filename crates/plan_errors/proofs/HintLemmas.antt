-- Hints.
use Rattle.std.proofs.Common.{◌≡◌, ℕ, List, ◌++◌, Option, Result, Ok, Err, ap, ◌∙◌, append_assoc, codes}
use Rattle.std.specs.Prelude.{OnOk}
use denote.Ref.{Bor}
use Rattle.plan_errors.specs.Codes.{name_of}
use Rattle.plan_errors.specs.Faults.{code_of, subject_of}
use Rattle.plan_errors.specs.HintText.{named, cause_shown, advice_of}
use Rattle.plan_errors.specs.Subjects.{argument_of}
use Rattle.plan_errors.specs.declared.codes.Code.{Code}
use Rattle.plan_errors.specs.declared.context.Context.{Context}
use Rattle.plan_errors.specs.declared.context.About.{About}
use Rattle.plan_errors.specs.declared.fault.CliFault.{CliFault}

-- texts behind one another, in whatever order they are joined
joined : (old a b c : List ℕ) → old ++ a ++ b ++ c ≡ old ++ (a ++ (b ++ c))
joined old a b c = simp append_assoc

-- an argument, a cause and a command are the advice on an error
pub advice_pushed : {A E : Type 0} (context : Context) (fault : CliFault) (about : About)
    (argument : Option (Bor (List ℕ))) (code : Code) (old one two three : List ℕ) (r : Result A E)
    → about ≡ subject_of fault → argument ≡ argument_of context about → code ≡ code_of fault
    → one ≡ old ++ named about argument → two ≡ one ++ cause_shown fault
    → OnOk r (three ≡ two ++ codes "; see: plan explain " ++ name_of code)
    → OnOk r (three ≡ old ++ advice_of context fault)
advice_pushed context fault about argument code old one two three (Err e) is_about is_argument is_code first second third = tt
advice_pushed context fault about argument code old one two three (Ok x) is_about is_argument is_code first second third =
    let subject = ap (λ (given : Option (Bor (List ℕ))). named about given) is_argument
    ∙ ap (λ (s : About). named s (argument_of context s)) is_about in
    let command = ap (λ (c : Code). codes "; see: plan explain " ++ name_of c) is_code in
    third
    ∙ append_assoc two (codes "; see: plan explain ") (name_of code)
    ∙ ap (λ (text : List ℕ). two ++ text) command
    ∙ ap (λ (text : List ℕ). text ++ (codes "; see: plan explain " ++ name_of (code_of fault)))
    (second ∙ ap (λ (text : List ℕ). text ++ cause_shown fault) (first ∙ ap (λ (text : List ℕ). old ++ text) subject))
    ∙ joined old (named (subject_of fault) (argument_of context (subject_of fault))) (cause_shown fault)
    (codes "; see: plan explain " ++ name_of (code_of fault))
