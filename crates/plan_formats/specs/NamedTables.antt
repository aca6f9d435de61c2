-- Tables with a column of names (docs/definitions.md, "Formats").
use Rattle.std.specs.Prelude.{List, [], ◌∷◌, ◌++◌, map, codes}
use Rattle.std.specs.List.{slice_get}
use Rattle.plan_table.specs.Names.{Name}
use Rattle.plan_formats.specs.Cells.{Cell}
use Rattle.plan_formats.specs.Columns.{Column}
use Rattle.plan_formats.specs.NameColumns.{name_of_cell}
use Rattle.plan_formats.specs.Tables.{Table}
use Rattle.plan_formats.specs.declared.column.Layout.TheVariants as layout

-- the column of the names
abbrev pub name_column : Column
name_column = record { heading = codes "name"; word = codes "name"; layout = layout.Label }

-- a row, and behind it the first name of the number in its first cell
abbrev pub with_name : List Name → List Cell → List Cell
with_name names row = row ++ name_of_cell names (slice_get row 0) ∷ []

-- a table with one more column: for each row the first text of the number in its first cell
abbrev pub with_column : Column → List Name → Table → Table
with_column c texts t = record {
  above = t.above;
  columns = t.columns ++ c ∷ [];
  rows = map (with_name texts) t.rows;
  below = t.below;
}

-- a table with the names of its rows
abbrev pub with_names : List Name → Table → Table
with_names names t = with_column name_column names t
