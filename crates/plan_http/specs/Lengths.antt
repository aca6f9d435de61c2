-- Lengths as numbers, for private clauses only (docs/definitions.md, "Connections").
use Rattle.std.specs.Prelude.{◌≡◌, ℕ, Bool, false, ◌&&◌, ◌==◌, List, min}
use Rattle.std.specs.Str.Parse.{digits_value}
use Rattle.plan_http.specs.Fields.{is_length_text, is_length_wrong, body_length}

-- the text is this number
abbrev pub spells : ℕ → List ℕ → Bool
spells n text = is_length_text text && (digits_value 10 text == n)

abbrev pub is_zero : ℕ → Bool
is_zero byte = byte == 48

-- the length that valid values give, capped at one more than the longest body
abbrev pub IsCappedLength : List (List ℕ) → ℕ → Type 0
IsCappedLength values n =
    (is_length_wrong values ≡ false) × (n ≡ min (body_length values) 1048577)
