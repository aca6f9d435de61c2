-- The text of a file that was decoded.
use Rattle.std.specs.Prelude.{ℕ, List}
use Rattle.std.specs.Option.{option_map_or}
use Rattle.plan_encoding.specs.declared.text.Decoded.{Decoded}

-- the decoded text, or the bytes of the file if these are the text
abbrev pub text_in : Decoded → List ℕ → List ℕ
text_in decoded bytes = option_map_or (λ text. text.items) decoded.text bytes
