-- Waits: activities that stand for the lags of a list, such as `A+2d`. They are behind the
-- activities that are rows of the list, which have the numbers from 2 on (docs/definitions.md,
-- "Reports").
use Rattle.std.specs.Prelude.{ℕ, ◌-◌, ◌==◌, ◌&&◌, Bool, false, if◌then◌else◌, filter, length}
use Rattle.std.specs.Prelude.{List, Option, Some, None, nat_le, nat_lt, option_map}
use Rattle.std.specs.List.{find, list_any}
use Rattle.plan_net.specs.Network.{Net}

-- an activity is a row; the first one behind the rows has the number `behind`
abbrev pub is_row : ℕ → ℕ → Bool
is_row behind j = nat_le 2 j && nat_lt j behind

-- an arc is to an activity
abbrev pub is_to : ℕ → ℕ × ℕ → Bool
is_to j arc = arc.1 == j

-- the source of the first arc to an activity
abbrev pub first_source : List (ℕ × ℕ) → ℕ → Option ℕ
first_source arcs j = option_map (λ arc. arc.0) (find (is_to j) arcs)

-- the predecessor of an activity, if it has exactly one
abbrev pub only_predecessor : Net → ℕ → Option ℕ
only_predecessor net j =
    if length (filter (is_to j) net.arcs) == 1 then first_source net.arcs j else None

-- a predecessor is a row
abbrev pub is_some_row : ℕ → Option ℕ → Bool
is_some_row behind None = false
is_some_row behind (Some i) = is_row behind i

-- one of the arcs is from an activity to a row
abbrev pub is_followed : ℕ → List (ℕ × ℕ) → ℕ → Bool
is_followed behind arcs j = list_any (λ arc. arc.0 == j && is_row behind arc.1) arcs

-- an activity is a wait: it has exactly one predecessor, which is a row, and a row as a successor
abbrev pub is_wait : ℕ → Net → ℕ → Bool
is_wait behind net j =
    is_some_row behind (only_predecessor net j) && is_followed behind net.arcs j

-- the place among the rows of an activity, 0 if there is none
abbrev pub place_or_first : Option ℕ → ℕ
place_or_first None = 0
place_or_first (Some i) = i - 2

-- the place among the rows of the activity that a wait is behind
abbrev pub place_before : Net → ℕ → ℕ
place_before net j = place_or_first (only_predecessor net j)
