-- A text as numbered lines, and a line as words (docs/definitions.md, "Files").
use Rattle.std.specs.Prelude.{ℕ, ◌+◌, ◌==◌, ◌||◌, Bool, true, false, if◌then◌else◌, List, [], ◌∷◌, filter}
use Rattle.std.specs.List.{slice_split}

abbrev pub is_line_feed : ℕ → Bool
is_line_feed byte = byte == 10

-- tab, vertical tab, form feed, carriage return, the end mark 26, space
abbrev pub is_blank : ℕ → Bool
is_blank byte = byte == 9 || byte == 11 || byte == 12 || byte == 13 || byte == 26 || byte == 32

abbrev pub is_nonempty : List ℕ → Bool
is_nonempty [] = false
is_nonempty (_ ∷ _) = true

-- pieces without an empty one at their end
abbrev pub without_empty_end : List (List ℕ) → List (List ℕ)
without_empty_end [] = []
without_empty_end (piece ∷ []) = if is_nonempty piece then piece ∷ [] else []
without_empty_end (piece ∷ next ∷ pieces) = piece ∷ without_empty_end (next ∷ pieces)

-- the pieces of a text between line feeds; an empty piece at the end is no line
abbrev pub raw_lines : List ℕ → List (List ℕ)
raw_lines text = without_empty_end (slice_split is_line_feed text)

-- a text without the blanks at its front
abbrev pub trim_start : List ℕ → List ℕ
trim_start [] = []
trim_start (byte ∷ text) = if is_blank byte then trim_start text else byte ∷ text

-- a byte before a text whose end is trimmed: a blank is kept only if another byte follows
abbrev pub before_trimmed : ℕ → List ℕ → List ℕ
before_trimmed byte [] = if is_blank byte then [] else byte ∷ []
before_trimmed byte (next ∷ text) = byte ∷ next ∷ text

-- a text without the blanks at its end
abbrev pub trim_end : List ℕ → List ℕ
trim_end [] = []
trim_end (byte ∷ text) = before_trimmed byte (trim_end text)

-- a text without the blanks at both ends
abbrev pub trim : List ℕ → List ℕ
trim text = trim_end (trim_start text)

-- a line: its number, and its text without the blanks at both ends
pub record NumberedLine : Type 0 where
  pub number : ℕ
  pub text : List ℕ

-- raw lines as numbered lines; the first has the number n
abbrev pub numbered_from : ℕ → List (List ℕ) → List NumberedLine
numbered_from n [] = []
numbered_from n (text ∷ texts) = record { number = n; text = trim text } ∷ numbered_from (n + 1) texts

-- the lines of a text, numbered from 1
abbrev pub lines : List ℕ → List NumberedLine
lines text = numbered_from 1 (raw_lines text)

-- the number of the last of these lines, or n if there is none
abbrev pub last_number_or : ℕ → List NumberedLine → ℕ
last_number_or n [] = n
last_number_or n (line ∷ others) = last_number_or line.number others

-- the number of the last line of a text, 0 if it has none
abbrev pub last_line : List ℕ → ℕ
last_line text = last_number_or 0 (lines text)

-- the words of a line: the text between its blanks
abbrev pub words : List ℕ → List (List ℕ)
words text = filter is_nonempty (slice_split is_blank text)
