-- Marks for the arcs of a network, in a row for each activity, as the search for double arcs keeps
-- them.
use Rattle.std.specs.Prelude.{ℕ, Bool, true, false, ◌≡◌, ◌+◌, ◌<◌, ◌↔◌, List, length, replicate, slice_index_or, Contains, Vec}
use Rattle.std.specs.declared.alloc.Global.{Global}
use Rattle.plan_net.specs.Indexed.{row_at}

-- the mark at a row and a column, both from 0 on
abbrev pub mark_at : List (Vec Bool Global) → ℕ → ℕ → Bool
mark_at marks row column = slice_index_or (row_at marks row) column false

-- as many rows as activities, each with a mark for each activity
pub record IsSquare (count : ℕ) (marks : List (Vec Bool Global)) : Type 0 where
  pub rows : length marks ≡ count
  pub columns : (k : ℕ) → k < count → length (row_at marks k) ≡ count

abbrev pub HasNoMark : List (Vec Bool Global) → Type 0
HasNoMark marks = (row column : ℕ) → mark_at marks row column ≡ false

-- the marks that are set are those of the arcs: an arc's row is that of its end, its column that of
-- its start
abbrev pub AreMarks : List (ℕ × ℕ) → List (Vec Bool Global) → Type 0
AreMarks arcs marks = (row column : ℕ) → mark_at marks row column ≡ true ↔ Contains arcs (column + 1, row + 1)

-- for each row there is a row of zero lags of the same length
pub record AreNoLags (rows lags : List (Vec ℕ Global)) : Type 0 where
  pub whole : length lags ≡ length rows
  pub each : (k : ℕ) → k < length lags → row_at lags k ≡ replicate (length (row_at rows k)) 0
