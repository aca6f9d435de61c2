-- Texts that are written part by part.
use Rattle.std.proofs.Common.{◌≡◌, ℕ, List, ◌++◌, Result, Ok, Err, if◌then◌else◌, ap, ◌∙◌, append_assoc}
use Rattle.std.specs.Result.{OnOk, is_ok}

-- five parts, in three steps
pub five_parts : (old one two three a b c d e : List ℕ) → one ≡ old ++ (a ++ b) → two ≡ one ++ (c ++ d) → three ≡ two ++ e → three ≡ old ++ (a ++ b ++ c ++ d ++ e)
five_parts old one two three a b c d e first second third =
    third ∙ ap (λ (z : List ℕ). z ++ e) (second ∙ ap (λ (z : List ℕ). z ++ (c ++ d)) first) ∙ simp (append_assoc)

-- four parts, in two steps
pub four_parts : (old one two a b c d e : List ℕ) → one ≡ old ++ (a ++ b) → two ≡ one ++ (c ++ d) → d ≡ e → two ≡ old ++ (a ++ b ++ c ++ e)
four_parts old one two a b c d e first second is =
    second ∙ ap (λ (z : List ℕ). z ++ (c ++ d)) first ∙ ap (λ (z : List ℕ). (old ++ (a ++ b)) ++ (c ++ z)) is ∙ simp (append_assoc)

-- a text that is written in whole if the write succeeds
pub written : {T E : Type 0} (r : Result T E) (new whole old : List ℕ) → new ≡ (if is_ok r then whole else old) → OnOk r (new ≡ whole)
written (Ok x) new whole old e = e
written (Err x) new whole old e = tt
