-- The output of `plan explain` for an error line (docs/definitions.md, "Runs").
use Rattle.std.specs.Prelude.{◌≡◌, ◌++◌, ℕ, Bool, true, false, List, [], ◌∷◌, Option, Some, None}
use Rattle.std.specs.Prelude.{MatchOption, map, drop, codes}
use Rattle.std.specs.Char.{to_ascii_uppercase}
use Rattle.plan_psplib.specs.Lines.{words}
use Rattle.plan_errors.specs.Codes.{name_of, entry_of, carries_error}
use Rattle.plan_errors.specs.declared.codes.Code.{Code}

-- the tokens of a text, in capitals
abbrev pub tokens_of : List ℕ → List (List ℕ)
tokens_of text = words (map to_ascii_uppercase text)

-- the code with this name, or none if no code has it
abbrev pub IsCodeOf : List ℕ → Option Code → Type 0
IsCodeOf name found =
    MatchOption found ((code : Code) → name ≡ name_of code → ⊥) (λ code. name ≡ name_of code)

-- the code that an error line with these tokens starts with, or none
abbrev pub StartsWithCode : List (List ℕ) → Option Code → Type 0
StartsWithCode [] found = found ≡ None
StartsWithCode (token ∷ _) found = IsCodeOf token found

-- the code of the error that a line carries behind its own code, if it carries any
abbrev pub CarriesIf : Bool → List (List ℕ) → Option Code → Type 0
CarriesIf true tokens found = StartsWithCode tokens found
CarriesIf false tokens found = found ≡ None

-- the code of the error that the line of a code carries in these tokens, or none
abbrev pub CarriesCode : Code → List (List ℕ) → Option Code → Type 0
CarriesCode code tokens found = CarriesIf (carries_error code) tokens found

-- the entry of a code; if its line carries another code, an empty line and the entry of that code
abbrev pub explanation : Code → Option Code → List ℕ
explanation code None = entry_of code
explanation code (Some carried) = entry_of code ++ (codes "\n" ++ entry_of carried)

-- an error line with these tokens starts with a code, and carries the error of another one or none
abbrev pub NamesCodes : List (List ℕ) → Code → Option Code → Type 0
NamesCodes tokens code carried =
    StartsWithCode tokens (Some code) × CarriesCode code (drop 1 tokens) carried

-- a text explains an error line with these tokens
abbrev pub ExplainsTokens : List (List ℕ) → List ℕ → Type 0
ExplainsTokens tokens text = (code : Code) × (carried : Option Code)
    × NamesCodes tokens code carried × (text ≡ explanation code carried)

-- a text explains an error line
abbrev pub Explains : List ℕ → List ℕ → Type 0
Explains line text = ExplainsTokens (tokens_of line) text

-- a line reports that an error line starts with no code
abbrev pub TellsNoCode : List ℕ → List ℕ → Type 0
TellsNoCode text line =
    StartsWithCode (tokens_of text) None × (line ≡ codes "C1 unknown code")
