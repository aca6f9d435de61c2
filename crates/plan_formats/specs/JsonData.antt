-- Tables as JSON (docs/definitions.md, "Formats").
use Rattle.std.specs.Prelude.{ℕ, List, ◌++◌, Option, Some, None, map, fold, codes}
use Rattle.std.specs.List.{zip}
use Rattle.std.specs.Str.Lossy.{utf8_lossy}
use Rattle.serde_json.specs.Data.{Data, array, object, string, null, unsigned}
use Rattle.serde_json.specs.Data.{Members, no_members, put}
use Rattle.serde_json.specs.Data as json
use Rattle.serde_json.specs.View.{items_of}
use Rattle.plan_formats.specs.Cells.{Cell, value_of}
use Rattle.plan_formats.specs.Columns.{Column}
use Rattle.plan_formats.specs.TableLines.{Line, optimal, between, budget, duration, makespan}
use Rattle.plan_formats.specs.TableLines.{chain, id_chain, moved, tardiness, late, id_list, summary}
use Rattle.plan_formats.specs.Tables.{Table}

abbrev pub number_data : ℕ → Data
number_data n = json.number (unsigned n)

-- members with a number
abbrev pub with_number : List ℕ → ℕ → Members → Members
with_number name n members = put name (number_data n) members

-- members with the cell of a column, under its heading and under its word
abbrev pub with_cell : Members → Column → Cell → Members
with_cell members c cell = put c.word (value_of cell) (put c.heading (value_of cell) members)

-- members with the cells of columns
abbrev pub members_with_row : Members → List Column → List Cell → Members
members_with_row members columns row =
    fold (λ found pair. with_cell found pair.0 pair.1) members (zip columns row)

-- a row as an object
abbrev pub row_data : List Column → List Cell → Data
row_data columns row = object (members_with_row no_members columns row)

-- rows as an array of objects
abbrev pub rows_data : List Column → List (List Cell) → Data
rows_data columns rows = array (items_of (map (row_data columns) rows))

-- members with a status
abbrev pub with_status : List ℕ → Members → Members
with_status status members = put (codes "status") (string status) members

-- members with both bounds of the least makespan
abbrev pub with_bounds : ℕ → ℕ → Members → Members
with_bounds lower upper members =
    with_number (codes "upper_bound") upper (with_number (codes "lower_bound") lower members)

-- a chain as an array, or `null`
abbrev pub chain_data : Option (List ℕ) → Data
chain_data None = null
chain_data (Some js) = array (items_of (map number_data js))

-- words as an array; each maximal part that isn't UTF-8 becomes U+FFFD
abbrev pub words_data : List (List ℕ) → Data
words_data words = array (items_of (map (λ word. string (utf8_lossy word)) words))

-- members with a chain and the ids of its activities
abbrev pub with_id_chain : List ℕ → List (List ℕ) → Members → Members
with_id_chain js ids members =
    put (codes "chain_ids") (words_data ids) (put (codes "chain") (chain_data (Some js)) members)

-- members with the numbers of activities that moved and that were compared
abbrev pub with_moved : ℕ → ℕ → Members → Members
with_moved n count members =
    with_number (codes "compared") count (with_number (codes "moved") n members)

-- members with both bounds of the least greatest tardiness
abbrev pub with_tardiness : ℕ → ℕ → Members → Members
with_tardiness lower upper members = with_number (codes "tardiness_upper_bound") upper
    (with_number (codes "tardiness_lower_bound") lower members)

-- members with the numbers of late activities and of all
abbrev pub with_late : ℕ → ℕ → Members → Members
with_late n count members =
    with_number (codes "activities") count (with_number (codes "late") n members)

-- members with the makespan and the verdict of a schedule
abbrev pub with_summary : List ℕ → ℕ → List ℕ → Members → Members
with_summary name n verdict members =
    put (codes "verdict_" ++ name) (string verdict)
    (with_number (codes "makespan_" ++ name) n members)

-- members with the values of a line
abbrev pub with_line : Members → Line → Members
with_line members (optimal n) = with_bounds n n (with_status (codes "optimal") members)
with_line members (between lower upper) =
    with_bounds lower upper (with_status (codes "between") members)
with_line members (budget n) =
    with_number (codes "upper_bound") n (with_status (codes "budget") members)
with_line members (duration n) =
    with_number (codes "project_duration") n (with_number (codes "T") n members)
with_line members (makespan n) = with_number (codes "makespan") n members
with_line members (chain js) = put (codes "chain") (chain_data js) members
with_line members (id_chain js ids) = with_id_chain js ids members
with_line members (moved n count) = with_moved n count members
with_line members (tardiness lower upper) = with_tardiness lower upper members
with_line members (late n count) = with_late n count members
with_line members (id_list word ids) = put word (words_data ids) members
with_line members (summary name n verdict) = with_summary name n verdict members

-- members with the values of lines
abbrev pub with_lines : Members → List Line → Members
with_lines members lines = fold with_line members lines

-- a table as an object: the values of its lines, and the array `rows`
abbrev pub data_of : Table → Data
data_of t = object (put (codes "rows") (rows_data t.columns t.rows)
    (with_lines (with_lines no_members t.above) t.below))
