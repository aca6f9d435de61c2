-- Rows of a table, numbered without a gap (docs/definitions.md, "Tables and charts").
use Rattle.std.specs.Prelude.{ℕ, List, map}
use Rattle.std.specs.List.{range_with_len}
use Rattle.plan_formats.specs.Cells.{Cell}

-- the rows of `count` numbers from `first` on
abbrev pub rows_from : (ℕ → List Cell) → ℕ → ℕ → List (List Cell)
rows_from row first count = map row (range_with_len first count)
