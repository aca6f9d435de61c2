-- Rows of tables that own the texts of their cells (docs/definitions.md, "Runs").
use Rattle.std.specs.Prelude.{ℕ, List, map}
use Rattle.std.specs.declared.vec.Vec.{Vec}
use Rattle.std.specs.declared.alloc.Global.{Global}
use Rattle.plan_formats.specs.Cells.{Cell, cell_of, text}
use Rattle.plan_formats.specs.Tables.{Table}
use Rattle.plan_cli.specs.declared.own_tables.OwnCell as cells
use Rattle.plan_cli.specs.declared.own_tables.OwnCell.TheVariants as kept

-- the cell of a text
abbrev pub text_cell : List ℕ → Cell
text_cell bytes = text bytes

-- a cell, as the program keeps it with its text
abbrev pub own_cell_of : cells.OwnCell → Cell
own_cell_of (kept.Text bytes) = text bytes.items
own_cell_of (kept.Plain cell) = cell_of cell

-- the same for rows
abbrev pub own_rows_of : List (Vec cells.OwnCell Global) → List (List Cell)
own_rows_of rows = map (λ row. map own_cell_of row.items) rows

-- a table with other rows
abbrev pub with_rows : Table → List (List Cell) → Table
with_rows t rows =
    record { above = t.above; columns = t.columns; rows = rows; below = t.below }
