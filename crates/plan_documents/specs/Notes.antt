-- The notes on a list: its encoding and its ignored columns (docs/definitions.md, "Runs").
use Rattle.std.specs.Prelude.{◌≡◌, ◌++◌, ℕ, List, [], ◌∷◌, Option, Some, None, codes, map}
use Rattle.std.specs.Prelude.{string_bytes}
use Rattle.std.specs.List.{flat_map}
use Rattle.plan_encoding.specs.declared.encoding.Encoding.{Encoding}
use Rattle.plan_encoding.specs.declared.encoding.Encoding.TheVariants as encoding
use Rattle.plan_errors.specs.HintText.{masked}
use Rattle.plan_spreadsheet.specs.declared.list.PlainList.{PlainList}
use Rattle.plan_table.specs.Overrides.{Override}
use Rattle.plan_documents.specs.Quotes.{quoted}
use Rattle.plan_documents.specs.Spreadsheets.{IsPlainOf}

-- the header of a column, at most 60 bytes of it, without control characters
abbrev pub shown_header : List ℕ → List ℕ
shown_header header = masked (quoted header)

-- the same behind another header
abbrev pub next_header : List ℕ → List ℕ
next_header header = codes ", " ++ shown_header header

-- the note on ignored columns
abbrev pub ignored_text : List ℕ → List (List ℕ) → List ℕ
ignored_text first rest =
    codes "ignored columns: " ++ shown_header first ++ flat_map next_header rest

-- the same, if there are some
abbrev pub ignored_note : List (List ℕ) → Option (List ℕ)
ignored_note [] = None
ignored_note (first ∷ rest) = Some (ignored_text first rest)

-- the note on the encoding, if it is a guess
abbrev pub encoding_note : Encoding → Option (List ℕ)
encoding_note encoding.Windows1252 = Some (codes "read as Windows-1252")
encoding_note encoding.Utf8 = None
encoding_note encoding.Utf16Le = None
encoding_note encoding.Utf16Be = None

-- two notes in one line
abbrev pub joined_text : List ℕ → List ℕ → List ℕ
joined_text first second = first ++ codes "; " ++ second

-- the same, or the one that there is
abbrev pub joined_notes : Option (List ℕ) → Option (List ℕ) → Option (List ℕ)
joined_notes None second = second
joined_notes (Some first) None = Some first
joined_notes (Some first) (Some second) = Some (joined_text first second)

-- the line of notes on a plain list, if there are notes
abbrev pub note_line : PlainList → Option (List ℕ)
note_line p =
    joined_notes (encoding_note p.encoding) (ignored_note (map string_bytes p.ignored.items))

-- the line of notes on the list in a file, with capacities that are given
abbrev pub AreNotesOf : List Override → List ℕ → Option (List ℕ) → Type 0
AreNotesOf given file note = (p : PlainList) × IsPlainOf given file p × (note ≡ note_line p)
