-- Lines as one stream of words (docs/definitions.md, "Files").
use Rattle.std.specs.Prelude.{ℕ, Bool, if◌then◌else◌, List, [], ◌∷◌, filter, map}
use Rattle.std.specs.List.{flat_map}
use Rattle.plan_psplib.specs.Lines.{NumberedLine, words}

-- a word and the number of its line
pub record LineWord : Type 0 where
  pub line : ℕ
  pub text : List ℕ

-- the words of one line
abbrev pub words_at : ℕ → List (List ℕ) → List LineWord
words_at n texts = map (λ text. record { line = n; text = text }) texts

-- the words of lines, one after another
abbrev pub words_of : List NumberedLine → List LineWord
words_of lines = flat_map (λ line. words_at line.number (words line.text)) lines

-- the lines before the first that ends them
abbrev pub before_end : (List ℕ → Bool) → List NumberedLine → List NumberedLine
before_end ends [] = []
before_end ends (line ∷ lines) = if ends line.text then [] else line ∷ before_end ends lines

-- the lines that count, up to the first of them that is an end
abbrev pub rows : (List ℕ → Bool) → (List ℕ → Bool) → List NumberedLine → List NumberedLine
rows takes ends lines = before_end ends (filter (λ line. takes line.text) lines)

-- a stream: its remaining words, and the line of the last word that was read; before the first
-- word, the line of its title
pub record Stream : Type 0 where
  pub last : ℕ
  pub words : List LineWord
