-- A table: lines above its rows, its columns, its rows, and lines below them (docs/definitions.md,
-- "Formats").
use Rattle.std.specs.Prelude.{List, map}
use Rattle.std.specs.declared.vec.Vec.{Vec}
use Rattle.std.specs.declared.alloc.Global.{Global}
use Rattle.plan_formats.specs.Cells.{Cell, cell_of}
use Rattle.plan_formats.specs.Columns.{Column, column_of}
use Rattle.plan_formats.specs.TableLines.{Line, line_of}
use Rattle.plan_formats.specs.declared.cell.Cell as declared_cell
use Rattle.plan_formats.specs.declared.table.Table as declared

pub record Table : Type 0 where
  pub above : List Line
  pub columns : List Column
  pub rows : List (List Cell)
  pub below : List Line

-- the cells of a row, as the program keeps them
abbrev pub cells_of : List declared_cell.Cell → List Cell
cells_of cells = map cell_of cells

-- rows, as the program keeps them
abbrev pub rows_of : List (Vec declared_cell.Cell Global) → List (List Cell)
rows_of rows = map (λ row. cells_of row.items) rows

-- a table, as the program keeps it
abbrev pub table_of : declared.Table → Table
table_of t = record {
  above = map line_of t.above.items;
  columns = map column_of t.columns.items;
  rows = rows_of t.rows.items;
  below = map line_of t.below.items;
}
