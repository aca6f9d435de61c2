-- Rows in another unit: the durations, and the lags behind plus signs.
use Rattle.std.specs.Prelude.{ℕ, ◌+◌, ◌==◌, ◌&&◌, Bool, if◌then◌else◌, List, [], ◌∷◌, ◌++◌, Option, Some, None, Result, Ok, Err, codes, drop, length, map, nat_le, not, take}
use Rattle.plan_psplib.specs.Lines.{trim, words}
use Rattle.plan_table.specs.declared.header.Column.{Column}
use Rattle.plan_table.specs.declared.header.Column.TheVariants as columns
use Rattle.plan_table.specs.Csv.{Row}
use Rattle.plan_table.specs.Entries.{place_from}
use Rattle.plan_table.specs.Header.{Head, heads_at}
use Rattle.plan_table.specs.Limits.{most_rows}
use Rattle.plan_table.specs.Overrides.{Override}
use Rattle.plan_table.specs.Predecessors.{Label}
use Rattle.plan_table.specs.Reading.{Fault}
use Rattle.plan_table.specs.Settlement.{settled}
use Rattle.plan_spreadsheet.specs.Units.{in_units}
use Rattle.plan_spreadsheet.specs.Waits.{is_named, labels_from, plus_in, spaced_from}

-- ---- predecessors

-- a predecessor and its lag in another unit, if the first part of the word is a predecessor
abbrev pub scaled_parts : ℕ → List Label → List ℕ → List ℕ → List ℕ → List ℕ
scaled_parts unit labels word predecessor lag =
    if not (length predecessor == 0) && is_named labels predecessor
    then (predecessor ++ codes "+") ++ in_units unit lag else word

abbrev pub scaled_unknown : ℕ → List Label → List ℕ → Option ℕ → List ℕ
scaled_unknown unit labels word None = word
scaled_unknown unit labels word (Some plus) =
    scaled_parts unit labels word (take plus word) (drop 1 (drop plus word))

-- a word of predecessors in another unit; one that names an activity stays
unfoldable pub scaled_word : ℕ → List Label → List ℕ → List ℕ
scaled_word unit labels word =
    if is_named labels word then word else scaled_unknown unit labels word (plus_in word)

-- words in another unit behind others, with a space behind each
unfoldable pub scaled_words : ℕ → List Label → List ℕ → List (List ℕ) → List ℕ
scaled_words unit labels before [] = before
scaled_words unit labels before (word ∷ words) =
    scaled_words unit labels ((before ++ scaled_word unit labels word) ++ 32 ∷ []) words

-- a text, or a cell in the place of an empty one
abbrev pub or_cell : List ℕ → List ℕ → List ℕ
or_cell text cell = if length text == 0 then cell else text

-- a cell of predecessors in another unit; one without words stays
abbrev pub scaled_predecessors : ℕ → List Label → List ℕ → List ℕ
scaled_predecessors unit labels cell =
    or_cell (scaled_words unit labels [] (words (spaced_from [] cell))) cell

-- ---- rows

-- a cell of a column in another unit
abbrev pub scaled_cell : ℕ → List Label → Column → List ℕ → List ℕ
scaled_cell unit labels columns.Duration cell = in_units unit (trim cell)
scaled_cell unit labels columns.Predecessors cell = scaled_predecessors unit labels cell
scaled_cell unit labels columns.Id cell = cell
scaled_cell unit labels columns.Name cell = cell
scaled_cell unit labels columns.Resource cell = cell
scaled_cell unit labels columns.Note cell = cell
scaled_cell unit labels columns.Nothing cell = cell

-- the kind of the first of the columns that are left
abbrev pub kind_of : List Head → Column
kind_of [] = columns.Nothing
kind_of (head ∷ heads) = head.column

-- cells from column k on in another unit, behind others
unfoldable pub scaled_from : ℕ → List Label → List Head → List (List ℕ) → ℕ → List (List ℕ)
    → List (List ℕ)
scaled_from unit labels heads before k [] = before
scaled_from unit labels heads before k (cell ∷ cells) =
    scaled_from unit labels heads (before ++ scaled_cell unit labels (kind_of (drop k heads)) cell ∷ []) (k + 1) cells

abbrev pub scaled_row : ℕ → List Label → List Head → Row → Row
scaled_row unit labels heads row =
    record { line = row.line; cells = scaled_from unit labels heads [] 0 row.cells }

-- ---- the list

-- labels, unless there are more than a list can have
abbrev pub few : List Label → List Label
few labels = if nat_le (length labels) most_rows then labels else []

-- the activities that predecessors can name; a list without ids has no waits
abbrev pub named_at : List Head → Option ℕ → List Row → List Label
named_at heads None rows = []
named_at heads (Some ids) rows = few (labels_from ids (place_from columns.Name 0 heads) [] rows)

abbrev pub scaled_under : ℕ → List Head → List Row → List Row
scaled_under unit heads rows =
    map (scaled_row unit (named_at heads (place_from columns.Id 0 heads) rows) heads) rows

-- a list whose header can't be read stays
abbrev pub scaled_by : ℕ → List Override → List Row → Result (List Head) Fault → List Row
scaled_by unit overrides rows (Err fault) = rows
scaled_by unit overrides rows (Ok heads) = scaled_under unit (settled overrides rows heads) rows

-- the rows behind a header in another unit
abbrev pub scaled : ℕ → List Override → Row → List Row → List Row
scaled unit overrides first rows =
    scaled_by unit overrides rows (heads_at first.line [] first.cells)
