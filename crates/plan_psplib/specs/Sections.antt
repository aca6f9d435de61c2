-- The head and the sections of an `.sm` text (docs/definitions.md, "Files").
use Rattle.std.specs.Prelude.{ℕ, ◌==◌, ◌||◌, Bool, if◌then◌else◌, List, [], ◌∷◌, Option, Some, None, codes, drop, filter, nat_eq, not}
use Rattle.std.specs.List.{after_first, list_all, starts_with}
use Rattle.plan_psplib.specs.Lines.{NumberedLine, lines, words}
use Rattle.plan_psplib.specs.Streams.{Stream, before_end, words_of}

-- a star or a hyphen
abbrev pub is_rule_byte : ℕ → Bool
is_rule_byte byte = byte == 42 || byte == 45

-- a line is kept unless it is empty or consists of stars and hyphens alone
abbrev pub is_kept : List ℕ → Bool
is_kept text = not (list_all is_rule_byte text)

-- the kept lines of a text
abbrev pub kept_lines : List ℕ → List NumberedLine
kept_lines text = filter (λ line. is_kept line.text) (lines text)

abbrev pub begins_with : List ℕ → List ℕ → Bool
begins_with text front = starts_with nat_eq text front

abbrev pub information_title : List ℕ
information_title = codes "PROJECT INFORMATION"

abbrev pub precedence_title : List ℕ
precedence_title = codes "PRECEDENCE RELATIONS"

abbrev pub requests_title : List ℕ
requests_title = codes "REQUESTS/DURATIONS"

abbrev pub availabilities_title : List ℕ
availabilities_title = codes "RESOURCEAVAILABILITIES"

-- a title line begins with one of the four titles
abbrev pub is_title : List ℕ → Bool
is_title text = begins_with text information_title || begins_with text precedence_title || begins_with text requests_title || begins_with text availabilities_title

-- the kept lines before the next title line
abbrev pub before_title : List NumberedLine → List NumberedLine
before_title kept = before_end is_title kept

-- the section behind a title line of this number: the line of column heads is skipped
abbrev pub section_from : ℕ → List NumberedLine → Stream
section_from n kept = record { last = n; words = words_of (drop 1 (before_title kept)) }

-- the section of a title: that behind the first line that begins with it
abbrev pub section : List ℕ → List NumberedLine → Option Stream
section title [] = None
section title (line ∷ kept) = if begins_with line.text title then Some (section_from line.number kept) else section title kept

-- the head: the kept lines before the first title line
abbrev pub head_of : List ℕ → List NumberedLine
head_of text = before_title (kept_lines text)

-- the first line that begins with a key
abbrev pub key_line : List ℕ → List NumberedLine → Option NumberedLine
key_line key [] = None
key_line key (line ∷ head) = if begins_with line.text key then Some line else key_line key head

abbrev pub is_colon : ℕ → Bool
is_colon byte = byte == 58

abbrev pub first_of : List (List ℕ) → Option (List ℕ)
first_of [] = None
first_of (first ∷ others) = Some first

-- the value of a key: the first word after the first colon
abbrev pub value_word : List ℕ → Option (List ℕ)
value_word text = first_of (words (after_first is_colon text))
