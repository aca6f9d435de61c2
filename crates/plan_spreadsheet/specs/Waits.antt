-- Waits: predecessors with a lag, such as `12FS+2d`. A waiting row stands between the two
-- activities.
use Rattle.std.specs.Prelude.{ℕ, ◌+◌, ◌-◌, ◌==◌, ◌&&◌, ◌||◌, Bool, true, false, if◌then◌else◌, List, [], ◌∷◌, ◌++◌, Option, Some, None, Result, Ok, Err, codes, count_by, drop, is_some, length, map, min, nat_le, not, take}
use Rattle.std.specs.Fmt.{decimal}
use Rattle.std.specs.List.{list_any, position}
use Rattle.plan_psplib.specs.Lines.{words}
use Rattle.plan_psplib.specs.Sections.{begins_with}
use Rattle.plan_table.specs.declared.header.Column.{Column}
use Rattle.plan_table.specs.declared.header.Column.TheVariants as columns
use Rattle.plan_table.specs.Cells.{is_separator, same}
use Rattle.plan_table.specs.Csv.{Row, row_of}
use Rattle.plan_table.specs.Durations.{is_unit}
use Rattle.plan_table.specs.Entries.{place_from}
use Rattle.plan_table.specs.Header.{Head, heads_at}
use Rattle.plan_table.specs.Limits.{most_rows}
use Rattle.plan_table.specs.Overrides.{Override}
use Rattle.plan_table.specs.Predecessors.{Label, number_by}
use Rattle.plan_table.specs.Reading.{Fault}
use Rattle.plan_table.specs.Settlement.{cell_of, is_capacities, settled}
use Rattle.plan_spreadsheet.specs.declared.waiting.Linked as rows
use Rattle.plan_spreadsheet.specs.declared.waits.Links as declared
use Rattle.plan_spreadsheet.specs.declared.waits.Wait as wait
use Rattle.plan_spreadsheet.specs.Lags.{is_lag}

-- a wait: the predecessor as its cell names it, and the lag
pub record Wait : Type 0 where
  pub predecessor : List ℕ
  pub lag : List ℕ

-- the same, as the program keeps it
abbrev pub wait_of : wait.Wait → Wait
wait_of w = record { predecessor = w.predecessor.items; lag = w.lag.items }

-- ---- the activities that words name

-- a word without the link type `FS` at its end names an activity
abbrev pub is_linked : List Label → List ℕ → Bool
is_linked labels word =
    same (drop (length word - 2) word) (codes "FS")
    && is_some (number_by labels (take (length word - 2) word))

-- a word names an activity
abbrev pub is_named : List Label → List ℕ → Bool
is_named labels word = is_some (number_by labels word) || is_linked labels word

abbrev pub name_in : Option ℕ → Row → List ℕ
name_in None row = []
name_in (Some k) row = cell_of k row

-- labels with that of a row, if it is one of an activity
abbrev pub with_label : ℕ → Option ℕ → List Label → Row → List Label
with_label ids names before row =
    if is_capacities (Some ids) row then before
    else before ++ record { id = cell_of ids row; name = name_in names row } ∷ []

-- the labels of rows, behind others
unfoldable pub labels_from : ℕ → Option ℕ → List Label → List Row → List Label
labels_from ids names before [] = before
labels_from ids names before (row ∷ rows) =
    labels_from ids names (with_label ids names before row) rows

-- the id of a waiting row
abbrev pub wait_id : ℕ → List ℕ
wait_id k = codes "wait+" ++ decimal k

-- an activity has an id or a name that could be that of a waiting row
abbrev pub is_taken : Label → Bool
is_taken label = begins_with label.id (codes "wait+") || begins_with label.name (codes "wait+")

-- a list with these activities can get waiting rows
abbrev pub can_wait : List Label → Bool
can_wait labels = nat_le (length labels) most_rows && not (list_any is_taken labels)

-- ---- the words of a cell

-- the words so far, each with a space behind it, all waits so far, and whether a wait is the last
-- word
pub record Links : Type 0 where
  pub text : List ℕ
  pub waits : List Wait
  pub behind : Bool

-- the same, as the program keeps it
abbrev pub links_of : declared.Links → Links
links_of l = record { text = l.text.items; waits = map wait_of l.waits.items; behind = l.behind }

-- with a word that stays
abbrev pub with_text : Links → List ℕ → Links
with_text l word = record { text = (l.text ++ word) ++ 32 ∷ []; waits = l.waits; behind = false }

-- with a wait: the cell names its waiting row
abbrev pub with_wait : Links → List ℕ → List ℕ → Links
with_wait l predecessor lag =
    record {
      text = (l.text ++ wait_id (length l.waits)) ++ 32 ∷ [];
      waits = l.waits ++ record { predecessor = predecessor; lag = lag } ∷ [];
      behind = true;
    }

-- a plus sign stands between the two parts of a wait
abbrev pub is_wait : List Label → List ℕ → List ℕ → Bool
is_wait labels predecessor lag =
    not (length predecessor == 0) && is_named labels predecessor && is_lag lag

abbrev pub plus_in : List ℕ → Option ℕ
plus_in word = position (λ byte. byte == 43) word

abbrev pub with_parts : List Label → Links → List ℕ → List ℕ → List ℕ → Links
with_parts labels l word predecessor lag =
    if is_wait labels predecessor lag then with_wait l predecessor lag else with_text l word

-- with a word that names no activity
abbrev pub with_unknown : List Label → Links → List ℕ → Option ℕ → Links
with_unknown labels l word None = with_text l word
with_unknown labels l word (Some plus) =
    with_parts labels l word (take plus word) (drop 1 (drop plus word))

-- without a word for days
abbrev pub without_unit : Links → Links
without_unit l = record { text = l.text; waits = l.waits; behind = false }

-- with one more word that is no separator. A word for days behind a wait belongs to its lag
unfoldable pub with_content : List Label → Links → List ℕ → Links
with_content labels l word =
    if is_named labels word then with_text l word
    else if l.behind && is_unit word then without_unit l
    else with_unknown labels l word (plus_in word)

-- with one more word; a separator ends a wait
unfoldable pub with_word : List Label → Links → List ℕ → Links
with_word labels l word =
    if same word (codes ",") then without_unit l else with_content labels l word

unfoldable pub with_words : List Label → Links → List (List ℕ) → Links
with_words labels l [] = l
with_words labels l (word ∷ words) = with_words labels (with_word labels l word) words

-- the words of a text, behind the waits of earlier cells
abbrev pub with_all : List Label → List Wait → List ℕ → Links
with_all labels waits text =
    with_words labels (record { text = []; waits = waits; behind = false }) (words text)

-- a text with one more byte; a separator becomes a word
abbrev pub with_byte : List ℕ → ℕ → List ℕ
with_byte before byte =
    if is_separator byte then ((before ++ 32 ∷ []) ++ 44 ∷ []) ++ 32 ∷ [] else before ++ byte ∷ []

-- the bytes of a cell behind others, where separators are words
unfoldable pub spaced_from : List ℕ → List ℕ → List ℕ
spaced_from before [] = before
spaced_from before (byte ∷ bytes) = spaced_from (with_byte before byte) bytes

-- the words of a cell
abbrev pub with_cell : List Label → List Wait → List ℕ → Links
with_cell labels waits cell = with_all labels waits (spaced_from [] cell)

-- ---- the rows of activities

-- cells from column k on, behind others; that in one column is another text
abbrev pub cell_or_text : ℕ → List ℕ → ℕ → List ℕ → List ℕ
cell_or_text place text k cell = if place == k then text else cell

unfoldable pub replaced_from : ℕ → List ℕ → List (List ℕ) → ℕ → List (List ℕ) → List (List ℕ)
replaced_from place text before k [] = before
replaced_from place text before k (cell ∷ cells) =
    replaced_from place text (before ++ cell_or_text place text k cell ∷ []) (k + 1) cells

abbrev pub replaced : ℕ → List ℕ → Row → Row
replaced place text row =
    record { line = row.line; cells = replaced_from place text [] 0 row.cells }

-- the predecessors in a row; that of the capacities has none
abbrev pub predecessors_in : ℕ → ℕ → Row → List ℕ
predecessors_in ids after row = if is_capacities (Some ids) row then [] else cell_of after row

-- a row whose cell names waiting rows, if it has waits
abbrev pub row_with : ℕ → ℕ → Links → Row → Row
row_with after before l row = if before == length l.waits then row else replaced after l.text row

-- rows, and their waits
pub record Linked : Type 0 where
  pub rows : List Row
  pub waits : List Wait

-- the same, as the program keeps it
abbrev pub linked_of : rows.Linked → Linked
linked_of l = record { rows = map row_of l.rows.items; waits = map wait_of l.waits.items }

-- with one more row
abbrev pub with_links : ℕ → ℕ → List Row → Row → Links → Linked
with_links after before all row l =
    record { rows = all ++ row_with after before l row ∷ []; waits = l.waits }

abbrev pub with_row : ℕ → ℕ → List Label → Linked → Row → Linked
with_row ids after labels l row =
    with_links after (length l.waits) l.rows row
    (with_cell labels l.waits (predecessors_in ids after row))

unfoldable pub linked_from : ℕ → ℕ → List Label → Linked → List Row → Linked
linked_from ids after labels l [] = l
linked_from ids after labels l (row ∷ rows) =
    linked_from ids after labels (with_row ids after labels l row) rows

abbrev pub no_rows : Linked
no_rows = record { rows = []; waits = [] }

-- ---- the waiting rows

-- the cell of a waiting row in a column
abbrev pub waiting_cell : ℕ → Wait → Column → List ℕ
waiting_cell k w columns.Duration = w.lag
waiting_cell k w columns.Id = wait_id k
waiting_cell k w columns.Predecessors = w.predecessor
waiting_cell k w columns.Name = []
waiting_cell k w columns.Resource = []
waiting_cell k w columns.Note = []
waiting_cell k w columns.Nothing = []

abbrev pub waiting_cells : ℕ → Wait → List Head → List (List ℕ)
waiting_cells k w heads = map (λ (head : Head). waiting_cell k w head.column) heads

abbrev pub waiting_row : List Head → ℕ → ℕ → Wait → Row
waiting_row heads line k w = record { line = line; cells = waiting_cells k w heads }

-- rows with the waiting rows from number k on, all in one line
unfoldable pub waiting_from : List Head → ℕ → List Row → ℕ → List Wait → List Row
waiting_from heads line before k [] = before
waiting_from heads line before k (w ∷ waits) =
    waiting_from heads line (before ++ waiting_row heads line k w ∷ []) (k + 1) waits

-- a line that is so many behind another one, up to the last one that a number of 64 bits counts
abbrev pub lines_behind : ℕ → ℕ → ℕ
lines_behind line n = min (line + n) 18446744073709551615

-- the line in which cells end that begin in a line
unfoldable pub line_behind : ℕ → List (List ℕ) → ℕ
line_behind line [] = line
line_behind line (cell ∷ cells) =
    line_behind (lines_behind line (count_by (λ byte. byte == 10) cell)) cells

-- the line in which the last row ends
unfoldable pub last_line : ℕ → List Row → ℕ
last_line line [] = line
last_line line (row ∷ rows) = last_line (line_behind row.line row.cells) rows

-- ---- the list

abbrev pub with_waiting : List Head → ℕ → Linked → List Row
with_waiting heads line l = waiting_from heads line l.rows 0 l.waits

abbrev pub waiting_if : List Head → ℕ → ℕ → List Label → List Row → List Row
waiting_if heads ids after labels rows =
    if can_wait labels
    then with_waiting heads (last_line 1 rows) (linked_from ids after labels no_rows rows)
    else rows

-- the rows behind the header, with waiting rows; without ids or predecessors they stay
abbrev pub waiting_at : List Head → Option ℕ → Option ℕ → List Row → List Row
waiting_at heads None after rows = rows
waiting_at heads (Some ids) None rows = rows
waiting_at heads (Some ids) (Some after) rows =
    waiting_if heads ids after (labels_from ids (place_from columns.Name 0 heads) [] rows) rows

abbrev pub waiting_under : List Head → List Row → List Row
waiting_under heads rows =
    waiting_at heads (place_from columns.Id 0 heads) (place_from columns.Predecessors 0 heads) rows

-- a list whose header can't be read stays
abbrev pub waiting_by : List Override → List Row → Result (List Head) Fault → List Row
waiting_by overrides rows (Err fault) = rows
waiting_by overrides rows (Ok heads) = waiting_under (settled overrides rows heads) rows

abbrev pub waiting_behind : List Override → Row → List Row → List Row
waiting_behind overrides first rows = waiting_by overrides rows (heads_at first.line [] first.cells)

-- a list with a waiting row for each wait, at its end; the first row is the header
abbrev pub with_waits : List Override → List Row → List Row
with_waits overrides [] = []
with_waits overrides (first ∷ rows) = first ∷ waiting_behind overrides first rows
