-- A list with the columns of a plan. Records are those of plan_table.
use Rattle.std.specs.Prelude.{◌≡◌, ℕ, ◌==◌, ◌&&◌, Bool, true, false, List, [], ◌∷◌, Option}
use Rattle.std.specs.Prelude.{Some, None, Ok, Err}
use Rattle.std.specs.Prelude.{codes, length, map}
use Rattle.std.specs.List.{find}
use Rattle.plan_encoding.specs.Encodings.{utf8_of}
use Rattle.plan_list_back.specs.ListBack.{has_id, header_with, place_in, place_or, put}
use Rattle.plan_list_back.specs.Texts.{IsUnwritten, text_with}
use Rattle.plan_list_back.specs.declared.fault.ListBackFault.{ListBackFault}
use Rattle.plan_list_back.specs.declared.fault.ListBackFault.TheVariants as faults
use Rattle.plan_spreadsheet.specs.Rows.{Spells, filled}
use Rattle.plan_table.specs.Csv.{Row}
use Rattle.plan_table.specs.Listing.{rows_read}
use Rattle.plan_table.specs.Reading as tables
use Rattle.plan_weekback.specs.declared.entries.Field.{Field}
use Rattle.plan_weekback.specs.declared.entries.Field.TheVariants as fields
use Rattle.plan_weekback.specs.Entries.{Entry}

-- the header of a column
abbrev pub word_of : Field → List ℕ
word_of fields.Start = codes "start"
word_of fields.Finish = codes "finish"
word_of fields.Late = codes "late"

abbrev pub text_in : Field → Entry → List ℕ
text_in fields.Start e = e.start
text_in fields.Finish e = e.finish
text_in fields.Late e = e.late

abbrev pub text_if : Field → Option Entry → List ℕ
text_if field None = []
text_if field (Some e) = text_in field e

-- an activity is that of a row: the row begins in its line, and has its id
abbrev pub is_of : Row → Entry → Bool
is_of row e = e.line == row.line && has_id e.id row.cells

-- the text for a row: that of its first activity, or an empty one
abbrev pub text_for : Field → List Entry → Row → List ℕ
text_for field entries row = text_if field (find (is_of row) entries)

-- a row with its text in column k
abbrev pub row_with : Field → List Entry → ℕ → Row → Row
row_with field entries k row =
    record { line = row.line; cells = put k (text_for field entries row) row.cells }

-- the place of a column in the rows under a header, once the header has the column
abbrev pub place_of : Field → Row → ℕ
place_of field first = place_or (length first.cells) (place_in (word_of field) first.cells)

-- rows with a column; the first row is the header
abbrev pub with_column : Field → List Entry → List Row → List Row
with_column field entries [] = []
with_column field entries (first ∷ rows) =
    header_with (word_of field) first ∷ map (row_with field entries (place_of field first)) rows

-- rows, with the column of the tardiness if the flag is true
abbrev pub with_late : Bool → List Entry → List Row → List Row
with_late false entries rows = rows
with_late true entries rows = with_column fields.Late entries rows

-- rows with all columns of a plan
abbrev pub with_plan : Bool → List Entry → List Row → List Row
with_plan late entries rows = with_late late entries
    (with_column fields.Finish entries (with_column fields.Start entries rows))

-- ---- the list

-- a text has rows in the layout of a file: it is written so, and read as these rows
pub record IsLaidOut (file : List ℕ) (rows : List Row) (made : List ℕ) : Type 0 where
  pub layout : made ≡ text_with file (utf8_of file) rows
  pub read : Spells made rows

-- a text is the list of a file with the columns of a plan, each row in its line
abbrev pub IsBack : Bool → List Entry → List ℕ → List ℕ → Type 0
IsBack late entries file made = (rows : List Row) × (rows_read (utf8_of file) ≡ Ok rows)
    × IsLaidOut file (with_plan late entries (filled rows)) made

-- ---- errors

-- a file isn't read as rows
abbrev pub HasNoRows : List ℕ → Type 0
HasNoRows file = (fault : tables.Fault) × (rows_read (utf8_of file) ≡ Err fault)

-- the text of a list with the columns of a plan fails a check
abbrev pub FailsLayout : Bool → List Entry → List ℕ → ListBackFault → Type 0
FailsLayout late entries file fault = (rows : List Row) × (rows_read (utf8_of file) ≡ Ok rows)
    × IsUnwritten (text_with file (utf8_of file) (with_plan late entries (filled rows)))
    (with_plan late entries (filled rows)) fault

-- a file has no such list for this reason: it isn't read as rows, or the text with the columns is
-- too long or isn't read as its rows; memory can run out at any time
abbrev pub IsNoBack : Bool → List Entry → List ℕ → ListBackFault → Type 0
IsNoBack late entries file faults.Memory = Unit {0}
IsNoBack late entries file faults.NoList = HasNoRows file
IsNoBack late entries file faults.TooLong = FailsLayout late entries file faults.TooLong
IsNoBack late entries file faults.Changed = FailsLayout late entries file faults.Changed
