-- Cells with the names of activities, orders or machines (docs/definitions.md, "Formats").
use Rattle.std.specs.Prelude.{ℕ, List, Option, Some, None}
use Rattle.plan_table.specs.Names.{Name, first_name}
use Rattle.plan_formats.specs.Cells.{Cell, number, above, below, text, flag, empty}

-- a name, if there is one, as a cell
abbrev pub text_or_empty : Option Name → Cell
text_or_empty (Some name) = text name.name
text_or_empty None = empty

-- the first name of a number
abbrev pub name_cell : List Name → ℕ → Cell
name_cell names n = text_or_empty (first_name n names)

-- the name of the number in a cell, if the cell is there and has one
abbrev pub name_of_cell : List Name → Option Cell → Cell
name_of_cell names (Some (number n)) = name_cell names n
name_of_cell names (Some (above _)) = empty
name_of_cell names (Some (below _)) = empty
name_of_cell names (Some (text _)) = empty
name_of_cell names (Some (flag _)) = empty
name_of_cell names (Some empty) = empty
name_of_cell names None = empty
