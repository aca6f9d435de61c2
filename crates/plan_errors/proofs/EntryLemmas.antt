-- The entries of codes.
use Rattle.std.proofs.Common.{◌≡◌, ℕ, List, ◌++◌, Result, Ok, Err, ap, ◌∙◌, append_assoc}
use Rattle.std.specs.Prelude.{OnOk}
use Rattle.plan_errors.specs.Codes.{ended, entry_of, form_of, meaning_of, remedy_of}
use Rattle.plan_errors.specs.declared.codes.Code.{Code}

joined : (old a b c : List ℕ) → old ++ a ++ b ++ c ≡ old ++ (a ++ (b ++ c))
joined old a b c = simp append_assoc

-- the three lines of a code are its entry
pub entry_pushed : {A E : Type 0} (code : Code) (old one two three : List ℕ) (r : Result A E)
    → one ≡ old ++ ended (form_of code) → two ≡ one ++ ended (meaning_of code)
    → OnOk r (three ≡ two ++ ended (remedy_of code)) → OnOk r (three ≡ old ++ entry_of code)
unfolding entry_of
entry_pushed code old one two three (Err e) first second third = tt
entry_pushed code old one two three (Ok x) first second third =
    third
    ∙ ap (λ (text : List ℕ). text ++ ended (remedy_of code))
    (second ∙ ap (λ (text : List ℕ). text ++ ended (meaning_of code)) first)
    ∙ joined old (ended (form_of code)) (ended (meaning_of code)) (ended (remedy_of code))
