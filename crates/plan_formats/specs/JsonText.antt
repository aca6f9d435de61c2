-- JSON texts of one line (docs/definitions.md, "Formats"; RFC 8259).
use Rattle.std.specs.Prelude.{◌≡◌, ◌++◌, ℕ, List, Some, codes}
use Rattle.serde_json.specs.Data.{Data}
use Rattle.serde_json.specs.Read.{read}
use Rattle.serde_json.specs.Written.{compact_text}

-- the text of a value without white space, and LF
abbrev pub json_text_of : Data → List ℕ
json_text_of value = compact_text value ++ codes "\n"

-- a text is a line that reads as a value, by `serde_json`
abbrev pub IsLineOf : List ℕ → Data → Type 0
IsLineOf text value = (line : List ℕ) × (text ≡ line ++ codes "\n") × (read line ≡ Some value)
