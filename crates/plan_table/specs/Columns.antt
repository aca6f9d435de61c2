-- Columns of numbers.
use Rattle.std.specs.Prelude.{ℕ, ◌-◌, ◌==◌, if◌then◌else◌, List, ◌++◌, length, replicate, codes}
use Rattle.std.specs.Fmt.{decimal}
use Rattle.plan_table.specs.Numbered.{numbered}

-- a number at the right end of so many places
unfoldable pub number_column : ℕ → ℕ → List ℕ
number_column places n = replicate (places - length (decimal n)) 32 ++ decimal n

-- a space, and a number at the right end of so many places
abbrev pub spaced : ℕ → ℕ → List ℕ
spaced places n = codes " " ++ number_column places n

-- the places of the number at k: `first` for the one at 0, and `further` for each other one
abbrev pub places_at : ℕ → ℕ → ℕ → ℕ
places_at first further k = if k == 0 then first else further

-- numbers, each behind a space: the first at the right end of `first` places, each other one of
-- `further`
abbrev pub columns : ℕ → ℕ → List ℕ → List ℕ
columns first further ns = numbered (λ k n. spaced (places_at first further k) n) 0 ns
