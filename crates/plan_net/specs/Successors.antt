-- Rows of successors, one for each activity, and their arcs (docs/definitions.md, "Networks").
use Rattle.std.specs.Prelude.{◌≡◌, ℕ, ◌+◌, ◌≤◌, List, [], ◌∷◌, ◌++◌, length, map, nat_eq, Vec}
use Rattle.std.specs.List.{AllByRecursion, IsDistinct}
use Rattle.std.specs.declared.alloc.Global.{Global}

-- the arcs from an activity to each of these successors
abbrev pub arcs_from : ℕ → List ℕ → List (ℕ × ℕ)
arcs_from i successors = map (λ j. (i, j)) successors

-- the arcs of rows of successors, one row after another; the first row is that of activity i
abbrev pub arcs_of_rows : ℕ → List (List ℕ) → List (ℕ × ℕ)
arcs_of_rows i [] = []
arcs_of_rows i (row ∷ rows) = arcs_from i row ++ arcs_of_rows (i + 1) rows

-- a row contains activities of 1 to n, none of them twice
abbrev pub IsRow : ℕ → List ℕ → Type 0
IsRow n row = AllByRecursion (λ j. (1 ≤ j) × (j ≤ n)) row × IsDistinct nat_eq row

-- a row of successors for each of n activities
pub record AreRows (n : ℕ) (rows : List (List ℕ)) : Type 0 where
  pub whole : length rows ≡ n
  pub each : AllByRecursion (IsRow n) rows

-- the contents of the rows
abbrev pub rows_in : List (Vec ℕ Global) → List (List ℕ)
rows_in lists = map (λ list. list.items) lists
