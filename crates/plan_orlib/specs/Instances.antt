-- The instances of a job shop text, and the stream of each (docs/definitions.md, "Job shop files").
use Rattle.std.specs.Prelude.{ℕ, ◌==◌, ◌&&◌, ◌||◌, Bool, false, if◌then◌else◌, List, [], ◌∷◌, Option, Some, None, codes, filter, is_some, not}
use Rattle.std.specs.List.{filter_map}
use Rattle.std.specs.Str.{bytes_eq}
use Rattle.plan_psplib.specs.Lines.{NumberedLine, is_nonempty, lines, words}
use Rattle.plan_psplib.specs.Numbers.{is_number}
use Rattle.plan_psplib.specs.Streams.{Stream, before_end, words_of}

-- a plus line begins with a plus sign
abbrev pub is_plus : List ℕ → Bool
is_plus [] = false
is_plus (byte ∷ text) = byte == 43

abbrev pub name_of_words : List (List ℕ) → Option (List ℕ)
name_of_words (first ∷ name ∷ []) = if bytes_eq first (codes "instance") then Some name else None
name_of_words _ = None

-- the name on an instance line: a line of exactly two words, the first of them `instance`
abbrev pub instance_name : List ℕ → Option (List ℕ)
instance_name text = name_of_words (words text)

abbrev pub is_instance : List ℕ → Bool
is_instance text = is_some (instance_name text)

-- a line that may precede a description: a blank line or a plus line
abbrev pub is_before_description : List ℕ → Bool
is_before_description text = not (is_nonempty text) || is_plus text

-- the lines after the description, which is the first line that is neither blank nor a plus line
abbrev pub behind_description : List NumberedLine → List NumberedLine
behind_description [] = []
behind_description (line ∷ others) = if is_before_description line.text then behind_description others else others

-- the lines of a block: those after its instance line, up to the next instance line
abbrev pub block_lines : List NumberedLine → List NumberedLine
block_lines behind = before_end is_instance behind

-- the stream of the block after an instance line of this number: the words after the description up
-- to the next plus line
abbrev pub block_from : ℕ → List NumberedLine → Stream
block_from n behind = record { last = n; words = words_of (before_end is_plus (behind_description (block_lines behind))) }

abbrev pub is_name : List ℕ → Option (List ℕ) → Bool
is_name name None = false
is_name name (Some other) = bytes_eq other name

-- the stream of the first block of a name
abbrev pub block : List ℕ → List NumberedLine → Option Stream
block name [] = None
block name (line ∷ others) = if is_name name (instance_name line.text) then Some (block_from line.number others) else block name others

abbrev pub are_two_numbers : List (List ℕ) → Bool
are_two_numbers (first ∷ second ∷ []) = is_number first && is_number second
are_two_numbers _ = false

-- the lines that aren't blank
abbrev pub nonblank : List NumberedLine → List NumberedLine
nonblank all = filter (λ line. is_nonempty line.text) all

abbrev pub begins_with_two_numbers : List NumberedLine → Bool
begins_with_two_numbers [] = false
begins_with_two_numbers (line ∷ others) = are_two_numbers (words line.text)

-- a text is in the bare form if its first line that isn't blank is exactly two numbers
abbrev pub is_bare : List ℕ → Bool
is_bare text = begins_with_two_numbers (nonblank (lines text))

-- the name of the one instance of the bare form
abbrev pub bare_name : List ℕ
bare_name = codes "-"

-- the stream of the bare form: all words of the text
abbrev pub bare_stream : List ℕ → Stream
bare_stream text = record { last = 0; words = words_of (lines text) }

-- the stream of the first instance of a name
abbrev pub stream_of : List ℕ → List ℕ → Option Stream
stream_of name text =
    if is_bare text
    then (if bytes_eq name bare_name then Some (bare_stream text) else None)
    else block name (lines text)

-- the names of all instances, in order
abbrev pub names_of : List ℕ → List (List ℕ)
names_of text = if is_bare text then bare_name ∷ [] else filter_map (λ line. instance_name line.text) (lines text)
