-- A JSON document of a schedule as a table: its rows as lines of CSV (docs/definitions.md,
-- "Reports"; RFC 8259). serde_json reads the document.
use Rattle.std.specs.Prelude.{ℕ, if◌then◌else◌, List, [], ◌++◌, Option, Some, None, Result, Ok}
use Rattle.std.specs.Prelude.{Bool, false, ◌==◌, ◌&&◌, ◌||◌, codes, drop, is_some, option_and_then}
use Rattle.std.specs.List.{flat_map, list_any}
use Rattle.std.specs.Fmt.{decimal}
use Rattle.std.specs.Str.{is_utf8}
use Rattle.serde_json.specs.Data.{Data, Items, no_items, item}
use Rattle.serde_json.specs.Find.{get, as_array, as_number, as_str, as_u64}
use Rattle.serde_json.specs.Read.{read}
use Rattle.plan_psplib.specs.declared.text.fault.Fault.{Fault}
use Rattle.plan_psplib.specs.declared.text.fault.FileCode.TheVariants as code
use Rattle.plan_psplib.specs.Lines.{is_blank}
use Rattle.plan_psplib.specs.Tokens.{fault}
use Rattle.plan_report.specs.IdRows.{id_columns}

-- the value of a text, if it is JSON
abbrev pub value_in : List ℕ → Option Data
value_in text = if is_utf8 text then read text else None

-- the whole number of a row in a column
abbrev pub number_at : Data → List ℕ → Option ℕ
number_at row column = option_and_then as_u64 (option_and_then as_number (get column row))

-- a cell, empty if there is no number
abbrev pub cell_text : Option ℕ → List ℕ
cell_text None = codes ","
cell_text (Some n) = decimal n ++ codes ","

-- the line of a row: the numbers of the columns
unfoldable pub row_text : List (List ℕ) → Data → List ℕ
row_text columns row = flat_map (λ column. cell_text (number_at row column)) columns ++ codes "\n"

-- the lines of rows
abbrev pub rows_text : List (List ℕ) → Items → List ℕ
rows_text columns no_items = []
rows_text columns (item row rows) = row_text columns row ++ rows_text columns rows

-- the line with the names of the columns
unfoldable pub head_text : List (List ℕ) → List ℕ
head_text columns = flat_map (λ column. column ++ codes ",") columns ++ codes "\n"

-- the rows of a document, none if it has no array `rows`
abbrev pub items_or_none : Option Items → Items
items_or_none None = no_items
items_or_none (Some rows) = rows

abbrev pub rows_in : Data → Items
rows_in value = items_or_none (option_and_then as_array (get (codes "rows") value))

-- the table of a document
unfoldable pub table_text : List (List ℕ) → Data → List ℕ
table_text columns value = head_text columns ++ rows_text columns (rows_in value)

-- the id of a row
abbrev pub id_in : Data → Option (List ℕ)
id_in row = option_and_then as_str (get (codes "id") row)

-- a byte that isn't part of a cell: a blank, a comma, a semicolon or a line feed
abbrev pub ends_cell : ℕ → Bool
ends_cell byte = is_blank byte || byte == 44 || byte == 59 || byte == 10

-- an id that is a cell, otherwise an empty text
abbrev pub id_text : List ℕ → List ℕ
id_text id = if list_any ends_cell id then [] else id

-- a cell with an id, empty if there is none or if it is no cell
abbrev pub id_cell : Option (List ℕ) → List ℕ
id_cell None = codes ","
id_cell (Some id) = id_text id ++ codes ","

-- the line of a row behind its id
unfoldable pub id_row_text : Data → List ℕ
id_row_text row = id_cell (id_in row) ++ row_text (drop 1 id_columns) row

abbrev pub id_rows_text : Items → List ℕ
id_rows_text no_items = []
id_rows_text (item row rows) = id_row_text row ++ id_rows_text rows

-- the table of a document with ids
unfoldable pub id_table_text : Data → List ℕ
id_table_text value = head_text id_columns ++ id_rows_text (rows_in value)

-- the first row has an id
abbrev pub first_has_id : Items → Bool
first_has_id no_items = false
first_has_id (item row rows) = is_some (id_in row)

-- the table of a document, with ids if they are wanted and the first row has one
abbrev pub table_with : Bool → List (List ℕ) → Data → List ℕ
table_with ids columns value =
    if ids && first_has_id (rows_in value) then id_table_text value else table_text columns value

-- the table of a text, or F3 at line 1 for a text that isn't JSON
abbrev pub table_by : Bool → List (List ℕ) → Option Data → Result (List ℕ) Fault
table_by ids columns None = fault code.MissingHead 1
table_by ids columns (Some value) = Ok (table_with ids columns value)

unfoldable pub table_in : Bool → List (List ℕ) → List ℕ → Result (List ℕ) Fault
table_in ids columns text = table_by ids columns (value_in text)
