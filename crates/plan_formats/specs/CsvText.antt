-- Tables as CSV (docs/definitions.md, "Formats"; RFC 4180).
use Rattle.std.specs.Prelude.{ℕ, if◌then◌else◌, List, [], ◌∷◌, map}
use Rattle.std.specs.List.{flat_map, zip}
use Rattle.csv.specs.Reading.{AreRecords, default_config}
use Rattle.csv.specs.Writing.{default_writer, row_text}
use Rattle.csv.specs.declared.parser.State.TheVariants as state
use Rattle.plan_formats.specs.Cells.{Cell, field_of}
use Rattle.plan_formats.specs.Columns.{Column, has_field}
use Rattle.plan_formats.specs.Tables.{Table}

-- the text of records, each as the default writer of `csv` writes it
abbrev pub csv_text_of : List (List (List ℕ)) → List ℕ
csv_text_of records = flat_map (λ fields. row_text default_writer fields) records

-- a text reads as these records, by the default reader of `csv`
abbrev pub ReadsAs : List ℕ → List (List (List ℕ)) → Type 0
ReadsAs text records = AreRecords default_config state.StartRecord text records

-- the field in a column, if CSV has the column
abbrev pub field_in : Column → List ℕ → List (List ℕ)
field_in c field = if has_field c.layout then field ∷ [] else []

-- the record of a row: its cells in the columns that CSV has
abbrev pub row_record : List Column → List Cell → List (List ℕ)
row_record columns row = flat_map (λ pair. field_in pair.0 (field_of pair.1)) (zip columns row)

-- a record for each row
abbrev pub records_of_rows : List Column → List (List Cell) → List (List (List ℕ))
records_of_rows columns rows = map (row_record columns) rows

-- the record of the headings
abbrev pub heading_record : List Column → List (List ℕ)
heading_record columns = flat_map (λ c. field_in c c.heading) columns

-- the records of a table: the headings, and a record for each row
abbrev pub records_of : Table → List (List (List ℕ))
records_of table = heading_record table.columns ∷ records_of_rows table.columns table.rows

-- each record has a field
abbrev pub HaveFields : List (List (List ℕ)) → Type 0
HaveFields [] = Unit {0}
HaveFields ([] ∷ records) = ⊥
HaveFields ((x ∷ xs) ∷ records) = HaveFields records
