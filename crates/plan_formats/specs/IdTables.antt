-- Tables with the ids of activities in the place of their numbers (docs/definitions.md,
-- "Formats").
use Rattle.std.specs.Prelude.{ℕ, Bool, false, if◌then◌else◌, bytes_eq, codes, length, fold, max}
use Rattle.std.specs.Prelude.{List, [], ◌∷◌, Option, Some, None}
use Rattle.std.specs.List.{flat_map, slice_get}
use Rattle.std.specs.Option.{option_map}
use Rattle.plan_table.specs.Names.{Name, first_name}
use Rattle.plan_formats.specs.Cells.{Cell, is_empty}
use Rattle.plan_formats.specs.Columns.{Column}
use Rattle.plan_formats.specs.NameColumns.{name_of_cell}
use Rattle.plan_formats.specs.TableLines.{Line, optimal, between, budget, duration, makespan}
use Rattle.plan_formats.specs.TableLines.{chain, id_chain, moved, tardiness, late, id_list, summary}
use Rattle.plan_formats.specs.Tables.{Table}
use Rattle.plan_formats.specs.declared.column.Layout.{Layout}
use Rattle.plan_formats.specs.declared.column.Layout.TheVariants as layout

-- the id of a row: the first id of the number in its first cell, or an empty cell
abbrev pub id_of : List Name → List Cell → Cell
id_of ids row = name_of_cell ids (slice_get row 0)

-- a row behind its id; no row if the id is empty
abbrev pub row_behind : Cell → List Cell → List (List Cell)
row_behind id row = if is_empty id then [] else (id ∷ row) ∷ []

-- a row whose number has an id, behind this id; no row if it has none
abbrev pub id_row : List Name → List Cell → List (List Cell)
id_row ids row = row_behind (id_of ids row) row

-- the rows whose number has an id, in their order, each behind its id
abbrev pub id_rows : List Name → List (List Cell) → List (List Cell)
id_rows ids rows = flat_map (id_row ids) rows

-- the places of a column in the text, 0 if it isn't aligned right
abbrev pub places_of : Layout → ℕ
places_of (layout.Right places) = places
places_of layout.Mark = 0
places_of layout.WideMark = 0
places_of layout.Label = 0
places_of layout.Line = 0
places_of (layout.Words places) = 0
places_of layout.Member = 0

-- the places of a column, or the length of the longest id if that is more
abbrev pub id_places : Layout → List Name → ℕ
id_places layout ids = fold (λ most id. max most (length id.name)) (places_of layout) ids

-- the column of the ids, in the place of the column of the numbers
abbrev pub id_column : List Name → Column → Column
id_column ids c = record {
  heading = codes "id";
  word = codes "id";
  layout = layout.Right (id_places c.layout ids);
}

-- a column for JSON alone
abbrev pub member_only : Column → Column
member_only c = record { heading = c.heading; word = c.word; layout = layout.Member }

-- columns with the ids in the place of the first of them
abbrev pub id_columns : List Name → List Column → List Column
id_columns ids [] = []
id_columns ids (c ∷ columns) = id_column ids c ∷ member_only c ∷ columns

-- a word, if there is one
abbrev pub word_or_none : Option (List ℕ) → List (List ℕ)
word_or_none None = []
word_or_none (Some word) = word ∷ []

-- the ids of numbers, without the numbers that have none
abbrev pub ids_of : List Name → List ℕ → List (List ℕ)
ids_of ids ns = flat_map (λ n. word_or_none (option_map (λ id. id.name) (first_name n ids))) ns

-- the numbers of a chain, if a line has one
abbrev pub chain_in : Line → Option (List ℕ)
chain_in (optimal n) = None
chain_in (between lower upper) = None
chain_in (budget n) = None
chain_in (duration n) = None
chain_in (makespan n) = None
chain_in (chain js) = js
chain_in (id_chain js words) = None
chain_in (moved n count) = None
chain_in (tardiness lower upper) = None
chain_in (late n count) = None
chain_in (id_list word ids) = None
chain_in (summary name n verdict) = None

-- the numbers of a chain that is the only line
abbrev pub only_chain : List Line → Option (List ℕ)
only_chain [] = None
only_chain (line ∷ []) = chain_in line
only_chain (line ∷ next ∷ lines) = None

-- lines, or in their place a chain with the ids of its activities
abbrev pub lines_or_chain : List Name → List Line → Option (List ℕ) → List Line
lines_or_chain ids lines None = lines
lines_or_chain ids lines (Some js) = id_chain js (ids_of ids js) ∷ []

-- lines; a chain that is the only one has the ids of its activities
abbrev pub lines_with_ids : List Name → List Line → List Line
lines_with_ids ids lines = lines_or_chain ids lines (only_chain lines)

-- the first column has the numbers of activities
abbrev pub has_activities : List Column → Bool
has_activities [] = false
has_activities (c ∷ columns) = bytes_eq c.word (codes "activity")

-- the ids replace the first column: there are ids, and it has the numbers of activities
abbrev pub takes_ids : List Name → List Column → Bool
takes_ids [] columns = false
takes_ids (id ∷ ids) columns = has_activities columns

-- a table of activities with their ids in the place of their numbers
abbrev pub id_table : List Name → Table → Table
id_table ids t = record {
  above = t.above;
  columns = id_columns ids t.columns;
  rows = id_rows ids t.rows;
  below = lines_with_ids ids t.below;
}

-- a table with the ids of its activities, if there are ids; any other table as it is
abbrev pub with_ids : List Name → Table → Table
with_ids ids t = if takes_ids ids t.columns then id_table ids t else t
