-- Tables of whole lines: the names of instances, a verdict (docs/definitions.md, "Tables and
-- charts").
use Rattle.std.specs.Prelude.{ℕ, List, [], ◌∷◌, ◌++◌, map, codes}
use Rattle.std.specs.List.{flat_map}
use Rattle.plan_formats.specs.Cells.{Cell, text}
use Rattle.plan_formats.specs.Tables.{Table}
use Rattle.plan_views.specs.Headings.{line_column}

-- the row of a line
abbrev pub line_row : List ℕ → List Cell
line_row line = text line ∷ []

-- a table whose rows are lines
abbrev pub line_view_of : List ℕ → List (List ℕ) → Table
line_view_of word lines = record {
  above = [];
  columns = line_column word ∷ [];
  rows = map line_row lines;
  below = [];
}

-- the text of lines
abbrev pub text_of_lines : List (List ℕ) → List ℕ
text_of_lines lines = flat_map (λ line. line ++ codes "\n") lines

-- the names of instances, and a verdict
abbrev pub name_view_of : List (List ℕ) → Table
name_view_of names = line_view_of (codes "name") names

abbrev pub verdict_view_of : List ℕ → Table
verdict_view_of sentence = line_view_of (codes "verdict") (sentence ∷ [])
