-- A text that is written in two pieces.
use Rattle.std.proofs.Common.{◌≡◌, ℕ, List, ◌++◌, ap, ◌∙◌, append_assoc}

-- two pieces behind a text
pub two_pieces : (text one two a b : List ℕ) → one ≡ text ++ a → two ≡ one ++ b → two ≡ text ++ (a ++ b)
two_pieces text one two a b first second = second ∙ ap (λ t. t ++ b) first ∙ append_assoc text a b
