-- Numbers in a text (docs/definitions.md, "Files").
use Rattle.std.specs.Prelude.{◌≡◌, ◌∷◌, ℕ, ◌+◌, ◌-◌, ◌*◌, ◌&&◌, Bool, if◌then◌else◌, List, length, fold, nat_le, Option, Some, None}
use Rattle.std.specs.List.{list_all}

abbrev pub is_digit : ℕ → Bool
is_digit byte = nat_le 48 byte && nat_le byte 57

-- the value of decimal digits
abbrev pub decimal : List ℕ → ℕ
decimal digits = fold (λ n byte. n * 10 + (byte - 48)) 0 digits

-- a number is a word of one to nine decimal digits
abbrev pub is_number : List ℕ → Bool
is_number word = nat_le 1 (length word) && nat_le (length word) 9 && list_all is_digit word

-- the number that a word spells, if it is one
abbrev pub number : List ℕ → Option ℕ
number word = if is_number word then Some (decimal word) else None

-- the first of the words is a number, and the others follow
abbrev pub BeginsWithNumber : List (List ℕ) → ℕ → List (List ℕ) → Type 0
BeginsWithNumber words n others = (word : List ℕ) × (words ≡ word ∷ others) × (number word ≡ Some n)
