-- The comparison of two schedules by the ids of their activities (docs/definitions.md, "Tables and
-- charts").
use Rattle.std.specs.Prelude.{ℕ, ◌+◌, ◌==◌, Bool, false, not, is_some, is_none, bytes_eq, codes, max}
use Rattle.std.specs.Prelude.{List, [], ◌∷◌, ◌++◌, Option, Some, None, filter, fold, length, map}
use Rattle.std.specs.Prelude.{slice_index}
use Rattle.std.specs.List.{find, flat_map, range_with_len}
use Rattle.std.specs.Option.{option_map}
use Rattle.plan_table.specs.Names.{Name, first_name}
use Rattle.plan_formats.specs.Cells.{Cell, number, text, empty}
use Rattle.plan_formats.specs.Columns.{Column}
use Rattle.plan_formats.specs.TableLines.{Line, moved, id_list}
use Rattle.plan_formats.specs.Tables.{Table}
use Rattle.plan_views.specs.ComparisonTables.{shift_of}
use Rattle.plan_views.specs.Headings.{right_column}
use Rattle.plan_views.specs.declared.id_comparisons.IdStart as declared

-- an id, and the start of its activity
pub record IdStart : Type 0 where
  pub id : List ℕ
  pub start : ℕ

abbrev pub id_start_of : declared.IdStart → IdStart
id_start_of s = record { id = s.id.now; start = s.start }

-- an activity with its start, if it has an id
abbrev pub started : Option (List ℕ) → ℕ → List IdStart
started None start = []
started (Some id) start = record { id = id; start = start } ∷ []

-- the id of an activity
abbrev pub id_at : List Name → ℕ → Option (List ℕ)
id_at ids n = option_map (λ id. id.name) (first_name n ids)

-- the activities with an id, in the order of their numbers; index k is activity k + 1
abbrev pub id_start_at : List Name → List ℕ → ℕ → List IdStart
id_start_at ids starts k = started (id_at ids (k + 1)) (slice_index starts k)

abbrev pub id_starts : List Name → List ℕ → List IdStart
id_starts ids starts = flat_map (id_start_at ids starts) (range_with_len 0 (length starts))

-- the start of an id, that of the first activity with it
abbrev pub start_of : List IdStart → List ℕ → Option ℕ
start_of list id = option_map (λ s. s.start) (find (λ s. bytes_eq s.id id) list)

-- the activities whose id isn't in the other list
abbrev pub without : List IdStart → List IdStart → List IdStart
without other list = filter (λ s. is_none (start_of other s.id)) list

-- a row: the id, the old start, the new start, and the shift. A start that there isn't is empty.
abbrev pub row_with : Option ℕ → IdStart → List Cell
row_with None s = text s.id ∷ empty ∷ number s.start ∷ empty ∷ []
row_with (Some old) s = text s.id ∷ number old ∷ number s.start ∷ shift_of old s.start ∷ []

abbrev pub new_row : List IdStart → IdStart → List Cell
new_row old s = row_with (start_of old s.id) s

abbrev pub removed_row : IdStart → List Cell
removed_row s = text s.id ∷ number s.start ∷ empty ∷ empty ∷ []

-- the rows: the activities of the new list, and then those of the old list that were removed
abbrev pub id_comparison_rows : List IdStart → List IdStart → List (List Cell)
id_comparison_rows old new = map (new_row old) new ++ map removed_row (without new old)

-- an activity has an old start and another new one
abbrev pub is_moved : Option ℕ → ℕ → Bool
is_moved None new = false
is_moved (Some old) new = not (old == new)

abbrev pub count_moved : List IdStart → List IdStart → ℕ
count_moved old new = length (filter (λ s. is_moved (start_of old s.id) s.start) new)

-- the number of activities in both lists
abbrev pub count_common : List IdStart → List IdStart → ℕ
count_common old new = length (filter (λ s. is_some (start_of old s.id)) new)

-- the ids of activities
abbrev pub ids_of : List IdStart → List (List ℕ)
ids_of list = map (λ s. s.id) list

-- the lines below the rows
abbrev pub id_comparison_lines : List IdStart → List IdStart → List Line
id_comparison_lines old new =
    moved (count_moved old new) (count_common old new)
    ∷ id_list (codes "added") (ids_of (without old new))
    ∷ id_list (codes "removed") (ids_of (without new old)) ∷ []

-- the length of the longest id, or `most` if that is more
abbrev pub longest : ℕ → List IdStart → ℕ
longest most list = fold (λ most s. max most (length s.id)) most list

abbrev pub id_comparison_columns : ℕ → List Column
id_comparison_columns places =
    right_column (codes "id") (codes "id") places
    ∷ right_column (codes "old") (codes "old") 8
    ∷ right_column (codes "new") (codes "new") 8
    ∷ right_column (codes "shift") (codes "shift") 8 ∷ []

-- the table of activities with ids and starts
abbrev pub id_comparison_of : List IdStart → List IdStart → Table
id_comparison_of old new = record {
  above = [];
  columns = id_comparison_columns (longest (longest 4 old) new);
  rows = id_comparison_rows old new;
  below = id_comparison_lines old new;
}
