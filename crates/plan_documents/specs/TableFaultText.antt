-- The errors of a table as lines of text (docs/definitions.md, "Runs").
use Rattle.std.specs.Prelude.{◌≡◌, ℕ, List, [], ◌∷◌, ◌++◌, Option, Some, None, codes}
use Rattle.std.specs.Prelude.{option_map, string_bytes}
use Rattle.std.specs.Fmt.{decimal}
use Rattle.std.specs.Str.Lossy.{utf8_lossy}
use Rattle.plan_table.specs.declared.fault.TableCode.{TableCode}
use Rattle.plan_table.specs.declared.fault.TableCode.TheVariants as code
use Rattle.plan_table.specs.Reading.{Fault}
use Rattle.plan_documents.specs.Quotes.{quoted}
use Rattle.plan_errors.specs.declared.fault.CliFault.{CliFault}
use Rattle.plan_errors.specs.declared.fault.CliFault.TheVariants as fault

-- words, the number of a line, and words behind it
abbrev pub lined : List ℕ → ℕ → List ℕ → List ℕ
lined before line behind = before ++ decimal line ++ behind

-- the column that is missing: that of durations if no other is named
abbrev pub column_named : List ℕ → List ℕ
column_named [] = codes "duration"
column_named (byte ∷ name) = byte ∷ name

-- the line of an error with this code, line and word, without its end
abbrev pub line_by : TableCode → ℕ → List ℕ → List ℕ
line_by code.TooLong line word = codes "T1 too long"
line_by code.NotText line word = codes "T2 not text line " ++ decimal line
line_by code.NoDuration line word = codes "T3 no column " ++ column_named word
line_by code.ColumnTwice line word = codes "T4 column " ++ word ++ codes " twice"
line_by code.BadDuration line word = lined (codes "T5 line ") line (codes " duration")
line_by code.BadId line word = lined (codes "T6 line ") line (codes " id")
line_by code.IdTwice line word =
    lined (codes "T7 line ") line (codes " id " ++ word ++ codes " twice")
line_by code.NoSuchId line word = lined (codes "T8 line ") line (codes " predecessor " ++ word)
line_by code.BadNeed line word = lined (codes "T9 line ") line (codes " need " ++ word)
line_by code.NoCapacity line word = codes "T10 no capacity " ++ word
line_by code.Cycle line word = codes "T11 cycle" ++ word
line_by code.Limit line word = codes "T12 limit line " ++ decimal line
line_by code.Cells line word = lined (codes "T13 line ") line (codes " cells")
line_by code.NoResource line word = codes "T14 no resource " ++ word
line_by code.TooManySteps line word = codes "T15 steps " ++ word
line_by code.Successors line word = codes "T16 column " ++ word
line_by code.NeedAbove line word = lined (codes "T19 line ") line (codes " need " ++ word)

-- the line of an error; a byte of its word that isn't UTF-8 becomes the replacement character
abbrev pub fault_text_of : Fault → List ℕ
fault_text_of f = line_by f.code f.line (utf8_lossy f.word)

-- a line reports that a list has no resource of this name
abbrev pub TellsNoResource : List ℕ → List ℕ → Type 0
TellsNoResource name line = line ≡ line_by code.NoResource 0 (utf8_lossy name)

-- a line reports that no column of a list has a header, which an option names
abbrev pub TellsNoHeader : List ℕ → List ℕ → Type 0
TellsNoHeader header line = line ≡ line_by code.NoDuration 0 (utf8_lossy header)

-- the sentence that a word isn't a duration or a time, with at most 60 bytes of the word
abbrev pub duration_sentence : List ℕ → List ℕ
duration_sentence word =
    codes "\"" ++ quoted word ++ codes "\" isn't a whole number of at most 10000"

-- the sentence that quotes a cell without a duration or a time, unless the cell is empty
abbrev pub quoted_duration : List ℕ → Option (List ℕ)
quoted_duration [] = None
quoted_duration (byte ∷ cell) = Some (duration_sentence (utf8_lossy (byte ∷ cell)))

-- the sentence that quotes the cell of an error, if the cell explains it
abbrev pub quoted_by : TableCode → List ℕ → Option (List ℕ)
quoted_by code.BadDuration word = quoted_duration word
quoted_by _ word = None

abbrev pub quoted_cell : Fault → Option (List ℕ)
quoted_cell f = quoted_by f.code f.word

-- the detail of an error quotes the cell of a list that explains it
abbrev pub QuotesCell : Fault → CliFault → Type 0
QuotesCell f (fault.Refused refusal) =
    option_map string_bytes refusal.detail ≡ quoted_cell f
QuotesCell f fault.Memory = Unit {0}
QuotesCell f (fault.Input unread) = ⊥
QuotesCell f fault.Output = ⊥
