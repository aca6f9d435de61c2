-- Assignments: cells such as `crew[2],digger` in a column with names of resources. A column for
-- each name stands in its place.
use Rattle.std.specs.Prelude.{ℕ, ◌+◌, ◌-◌, ◌==◌, ◌&&◌, ◌||◌, Bool, if◌then◌else◌, List, [], ◌∷◌, ◌++◌, Option, Some, None, Result, Ok, Err, codes, drop, is_some, length, map, nat_lt, not, take}
use Rattle.std.specs.List.{list_any, position}
use Rattle.plan_psplib.specs.Lines.{trim}
use Rattle.plan_psplib.specs.Numbers.{number}
use Rattle.plan_table.specs.declared.header.Column.TheVariants as columns
use Rattle.plan_table.specs.Cells.{is_separator, same, same_name}
use Rattle.plan_table.specs.Csv.{Row}
use Rattle.plan_table.specs.Header.{Head, heads_at, same_kind}
use Rattle.plan_table.specs.Overrides.{Override, given}
use Rattle.plan_table.specs.Reading.{Fault}
use Rattle.plan_table.specs.Settlement.{Body, cell_of, gives_capacity, ids_place, is_capacities, is_given, settled}

-- ---- the parts of a cell

-- parts with one more, unless it is blank
abbrev pub with_part : List (List ℕ) → List ℕ → List (List ℕ)
with_part before part = if length (trim part) == 0 then before else before ++ trim part ∷ []

-- the parts of a text between separators, behind others and a part that has begun
unfoldable pub parts_from : List (List ℕ) → List ℕ → List ℕ → List (List ℕ)
parts_from before part [] = with_part before part
parts_from before part (byte ∷ bytes) =
    if is_separator byte then parts_from (with_part before part) [] bytes
    else parts_from before (part ++ byte ∷ []) bytes

-- the parts of a cell: each names a resource, perhaps with an amount in brackets
abbrev pub parts : List ℕ → List (List ℕ)
parts cell = parts_from [] [] cell

-- the place of the first bracket of a part
abbrev pub bracket : List ℕ → Option ℕ
bracket part = position (λ byte. byte == 91) part

-- the bytes behind a bracket, without the last one
abbrev pub inside : ℕ → List ℕ → List ℕ
inside k part = drop (k + 1) (take (length part - 1) part)

-- a bracket is at the end of a part
abbrev pub is_closed : List ℕ → Bool
is_closed part = same (drop (length part - 1) part) (codes "]")

-- a part has a name before the bracket at k, and an amount behind it up to a bracket at its end
abbrev pub has_amount : ℕ → List ℕ → Bool
has_amount k part =
    not (k == 0) && is_closed part && not (length (trim (inside k part)) == 0)

abbrev pub name_at : Option ℕ → List ℕ → List ℕ
name_at None part = part
name_at (Some k) part = if has_amount k part then trim (take k part) else part

abbrev pub amount_at : Option ℕ → List ℕ → List ℕ
amount_at None part = codes "1"
amount_at (Some k) part = if has_amount k part then inside k part else codes "1"

-- the resource that a part names
abbrev pub name_of : List ℕ → List ℕ
name_of part = name_at (bracket part) part

-- the amount of the resource in a part: 1 without brackets
abbrev pub amount_of : List ℕ → List ℕ
amount_of part = amount_at (bracket part) part

-- ---- the names in a column

-- names with that of a part, if it is a new one
abbrev pub with_name : List (List ℕ) → List ℕ → List (List ℕ)
with_name before name =
    if list_any (λ other. same_name other name) before then before else before ++ name ∷ []

-- the names of parts, behind others
unfoldable pub names_in : List (List ℕ) → List (List ℕ) → List (List ℕ)
names_in before [] = before
names_in before (part ∷ parts) = names_in (with_name before (name_of part)) parts

-- the names in column k of rows, behind others
unfoldable pub names_from : ℕ → List (List ℕ) → List Row → List (List ℕ)
names_from k before [] = before
names_from k before (row ∷ rows) = names_from k (names_in before (parts (cell_of k row))) rows

-- ---- the amounts of a name

-- amounts with that of a part that names a resource, and a blank behind it
abbrev pub with_amount : List ℕ → List ℕ → List ℕ → List ℕ
with_amount name before part =
    if same_name (name_of part) name then (before ++ amount_of part) ++ 32 ∷ [] else before

-- all amounts of a resource in parts, behind others
unfoldable pub amounts_from : List ℕ → List ℕ → List (List ℕ) → List ℕ
amounts_from name before [] = before
amounts_from name before (part ∷ parts) = amounts_from name (with_amount name before part) parts

-- the cells of a row under names of resources: the amounts in its parts
abbrev pub amounts : List (List ℕ) → List (List ℕ) → List (List ℕ)
amounts names parts = map (λ name. amounts_from name [] parts) names

-- ---- the rows

-- cells with others in the place of cell k
abbrev pub spliced : ℕ → List (List ℕ) → List (List ℕ) → List (List ℕ)
spliced k new cells = (take k cells ++ new) ++ drop (k + 1) cells

-- a row with other cells in the place of column k, if it has one there
abbrev pub row_with : ℕ → List (List ℕ) → Row → Row
row_with k new row =
    if nat_lt k (length row.cells)
    then record { line = row.line; cells = spliced k new row.cells } else row

-- a row with its amounts of resources in the place of column k
abbrev pub assigned : ℕ → List (List ℕ) → Row → Row
assigned k names row = row_with k (amounts names (parts (cell_of k row))) row

-- ---- the column

abbrev pub is_assignment_word : List ℕ → Bool
is_assignment_word key =
    same_name (codes "resource names") key || same_name (codes "resources") key
    || same_name (codes "ressourcennamen") key || same_name (codes "noms ressources") key
    || same_name (codes "nombres de los recursos") key

-- a row is that of the capacities, and has a number for column k
abbrev pub gives_number : Option ℕ → ℕ → Row → Bool
gives_number place k row = is_some (number (cell_of k row)) && is_capacities place row

-- column k has names of resources: it has a word for that, and no number is its capacity
abbrev pub is_assignments : Body → ℕ → Head → Bool
is_assignments body k head =
    same_kind columns.Resource head.column && is_assignment_word head.key
    && not (is_given body.overrides head) && not (list_any (gives_number body.place k) body.rows)

-- the first of the columns from column k on that has names of resources
unfoldable pub place_from : Body → ℕ → List Head → Option ℕ
place_from body k [] = None
place_from body k (head ∷ heads) =
    if is_assignments body k head then Some k else place_from body (k + 1) heads

-- ---- the list

-- no column has this name, and a capacity is given for it
abbrev pub is_limited : List Override → List Head → List ℕ → Bool
is_limited overrides heads name =
    is_some (given overrides name) && not (list_any (λ head. same_name head.name name) heads)

-- one of the names in column k has a capacity: in the row of the capacities, or given
abbrev pub has_limits : Body → List Head → ℕ → List (List ℕ) → Bool
has_limits body heads k names =
    list_any (gives_capacity body.place k) body.rows || list_any (is_limited body.overrides heads) names

-- a list with a column for each name in the place of column k
abbrev pub with_columns : ℕ → List (List ℕ) → Row → List Row → List Row
with_columns k names first rows = row_with k names first ∷ map (assigned k names) rows

abbrev pub assigned_if : Body → List Head → Row → ℕ → List (List ℕ) → List Row
assigned_if body heads first k names =
    if has_limits body heads k names then with_columns k names first body.rows else first ∷ body.rows

abbrev pub assigned_at : Body → List Head → Row → Option ℕ → List Row
assigned_at body heads first None = first ∷ body.rows
assigned_at body heads first (Some k) = assigned_if body heads first k (names_from k [] body.rows)

-- a list under these columns
abbrev pub assigned_under : Body → List Head → Row → List Row
assigned_under body heads first = assigned_at body heads first (place_from body 0 heads)

abbrev pub body_in : List Override → List Row → List Head → Body
body_in overrides rows heads =
    record { overrides = overrides; rows = rows; place = ids_place overrides heads }

-- a list whose header can't be read stays
abbrev pub assigned_by : List Override → Row → List Row → Result (List Head) Fault → List Row
assigned_by overrides first rows (Err fault) = first ∷ rows
assigned_by overrides first rows (Ok heads) =
    assigned_under (body_in overrides rows heads) (settled overrides rows heads) first

abbrev pub assigned_behind : List Override → Row → List Row → List Row
assigned_behind overrides first rows =
    assigned_by overrides first rows (heads_at first.line [] first.cells)

-- a list with columns in place of the names of resources; the first row is the header
abbrev pub with_assignments : List Override → List Row → List Row
with_assignments overrides [] = []
with_assignments overrides (first ∷ rows) = assigned_behind overrides first rows
