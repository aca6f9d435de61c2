-- Columns of a table: each value is aligned right (docs/definitions.md, "Texts").
use Rattle.std.specs.Prelude.{ℕ, ◌-◌, List, ◌++◌, length, replicate, codes}
use Rattle.std.specs.List.{flat_map, range_with_len}
use Rattle.std.specs.Fmt.{decimal}

-- a text aligned right in a number of characters; a longer text isn't cut
abbrev pub column : ℕ → List ℕ → List ℕ
column places text = replicate (places - length text) 32 ++ text

-- a number aligned right in a number of characters
unfoldable pub number_column : ℕ → ℕ → List ℕ
number_column places n = column places (decimal n)

-- numbers, each aligned right in 8 characters
abbrev pub number_columns : List ℕ → List ℕ
number_columns ns = flat_map (λ n. number_column 8 n) ns

-- a line of numbers: the first aligned right in 4 characters, the others in 8
abbrev pub number_row : ℕ → List ℕ → List ℕ
number_row first others = number_column 4 first ++ number_columns others ++ codes "\n"

-- the lines of `count` numbers from `first` on
abbrev pub lines_from : (ℕ → List ℕ) → ℕ → ℕ → List ℕ
lines_from line first count = flat_map line (range_with_len first count)
