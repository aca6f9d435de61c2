-- The activity that a row of a table says.
use Rattle.std.specs.Prelude.{ℕ, ◌==◌, ◌&&◌, Bool, if◌then◌else◌, List, [], ◌∷◌, ◌++◌, Result, Ok, length, drop, not, nat_le, nat_lt}
use Rattle.std.specs.List.{list_all, list_any, sum_by}
use Rattle.std.specs.Str.Lossy.{utf8_lossy}
use Rattle.plan_table.specs.declared.fault.TableCode.TheVariants as code
use Rattle.plan_table.specs.declared.header.Column.{Column}
use Rattle.plan_table.specs.declared.header.Column.TheVariants as columns
use Rattle.plan_psplib.specs.Lines.{trim}
use Rattle.plan_table.specs.Reading.{Fault, fault, check, ◌>>=◌}
use Rattle.plan_table.specs.Cells.{amount, name, is_separator}
use Rattle.plan_table.specs.Durations.{duration}
use Rattle.plan_table.specs.Header.{Head}
use Rattle.plan_table.specs.Limits.{is_printable}
use Rattle.plan_table.specs.Predecessors.{Label, has_id, predecessors}
use Rattle.plan_table.specs.Table.{Activity}

-- 1 for the first byte of a character
abbrev pub lead : ℕ → ℕ
lead byte = if nat_le 128 byte && nat_lt byte 192 then 0 else 1

-- how many characters a text has
abbrev pub characters : List ℕ → ℕ
characters text = sum_by lead text

-- a byte of an id: no blank, no control character, and nothing that stands between ids
abbrev pub is_id_byte : ℕ → Bool
is_id_byte byte = nat_lt 32 byte && not (is_separator byte)

-- the most characters of an id
abbrev pub longest_id : ℕ
longest_id = 32

abbrev pub is_id : List ℕ → Bool
is_id cell = not (length cell == 0) && nat_le (characters cell) longest_id && list_all is_id_byte cell && is_printable cell

-- an id that no earlier activity has
abbrev pub new_id : List Label → ℕ → List ℕ → Result (Unit {0}) Fault
new_id before line cell = if list_any (has_id cell) before then fault code.IdTwice line cell else Ok tt

unfoldable pub id_read : List Label → ℕ → List ℕ → Result (Unit {0}) Fault
id_read before line cell = do
  good ← check (is_id cell) code.BadId line
  new_id before line cell

-- a need; an empty cell is 0
abbrev pub need : ℕ → List ℕ → List ℕ → Result ℕ Fault
need line resource cell = if length cell == 0 then Ok 0 else amount code.BadNeed line resource cell

-- an activity with what a cell of a column says; the ids and names are those of all activities and
-- of the earlier ones
unfoldable pub cell_read : List Label → List Label → ℕ → Activity → Column → List ℕ → List ℕ → Result Activity Fault
cell_read ids before line a columns.Duration resource cell = duration line cell >>= λ n. Ok (record a { duration = n })
cell_read ids before line a columns.Id resource cell = id_read before line cell >>= λ u. Ok a
cell_read ids before line a columns.Name resource cell = name line cell >>= λ text. Ok (record a { name = text })
cell_read ids before line a columns.Predecessors resource cell = predecessors ids line cell >>= λ js. Ok (record a { predecessors = a.predecessors ++ js })
cell_read ids before line a columns.Resource resource cell = need line resource cell >>= λ n. Ok (record a { needs = a.needs ++ n ∷ [] })
cell_read ids before line a columns.Note resource cell = Ok a
cell_read ids before line a columns.Nothing resource cell = Ok a

-- the first cell of those that are left, an empty one if there is none
abbrev pub first_cell : List (List ℕ) → List ℕ
first_cell [] = []
first_cell (cell ∷ cells) = cell

-- an activity with what the cells of columns say
unfoldable pub row_read : List Label → List Label → ℕ → Activity → List Head → List (List ℕ) → Result Activity Fault
row_read ids before line a [] cells = Ok a
row_read ids before line a (head ∷ heads) cells = do
  b ← cell_read ids before line a head.column head.name (trim (first_cell cells))
  row_read ids before line b heads (drop 1 cells)

-- an activity of which only the line and the id are known
abbrev pub fresh_activity : ℕ → List ℕ → Activity
fresh_activity line id = record { line = line; id = utf8_lossy id; name = []; duration = 0; predecessors = []; needs = [] }

-- the activity of a row, which has no more cells than there are columns
unfoldable pub activity_read : List Label → List Label → ℕ → List ℕ → List Head → List (List ℕ) → Result Activity Fault
activity_read ids before line id heads cells = do
  a ← row_read ids before line (fresh_activity line id) heads cells
  whole ← check (nat_le (length cells) (length heads)) code.Cells line
  Ok a
