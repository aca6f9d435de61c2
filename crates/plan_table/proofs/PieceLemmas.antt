-- A text that is written piece by piece.
use Rattle.std.proofs.Common.{◌≡◌, ℕ, List, ◌++◌, ap, ◌∙◌, append_assoc}

-- two pieces behind a text
pub two_pieces : (text one two a b : List ℕ) → one ≡ text ++ a → two ≡ one ++ b → two ≡ text ++ (a ++ b)
two_pieces text one two a b first second = second ∙ ap (λ t. t ++ b) first ∙ append_assoc text a b

-- four pieces
pub four_pieces : (text one two three four a b c d : List ℕ) → one ≡ text ++ a → two ≡ one ++ b → three ≡ two ++ c → four ≡ three ++ d →
    four ≡ text ++ (a ++ b ++ c ++ d)
four_pieces text one two three four a b c d first second third fourth =
    two_pieces text three four (a ++ b ++ c) d
    (two_pieces text two three (a ++ b) c (two_pieces text one two a b first second) third) fourth

-- five pieces
pub five_pieces : (text one two three four five a b c d e : List ℕ) → one ≡ text ++ a → two ≡ one ++ b → three ≡ two ++ c → four ≡ three ++ d →
    five ≡ four ++ e → five ≡ text ++ (a ++ b ++ c ++ d ++ e)
five_pieces text one two three four five a b c d e first second third fourth fifth =
    two_pieces text four five (a ++ b ++ c ++ d) e (four_pieces text one two three four a b c d first second third fourth) fifth
