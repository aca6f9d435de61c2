-- The kind of list that a text is, by its header.
use Rattle.std.specs.Prelude.{◌≡◌, ◌⊎◌, ◌≤◌, ◌||◌, ℕ, Bool, true, false, if◌then◌else◌, List, [], ◌∷◌, Option, Some, None, Ok, codes, length, not, slice_get, take}
use Rattle.std.specs.List.{list_any}
use Rattle.plan_psplib.specs.Plain.{longest_text, plain}
use Rattle.plan_psplib.specs.Project.{Project, SaysProject}
use Rattle.plan_orlib.specs.Instances.{names_of}
use Rattle.plan_orlib.specs.Shop.{Shop}
use Rattle.plan_orlib.specs.Says.{Says}
use Rattle.plan_table.specs.declared.kinds.ListKind.{ListKind}
use Rattle.plan_table.specs.declared.kinds.ListKind.TheVariants as kinds
use Rattle.plan_table.specs.Cells.{same}
use Rattle.plan_table.specs.Csv.{Row, read_of, rows_at_end, without_mark}
use Rattle.plan_table.specs.Entries.{filled_from, is_blank_row}
use Rattle.plan_table.specs.declared.header.Column.{Column}
use Rattle.plan_table.specs.declared.header.Column.TheVariants as columns
use Rattle.plan_table.specs.Header.{key_of, same_kind}
use Rattle.plan_table.specs.Synonyms.{synonym_kind}

-- the cells of the first of some records
abbrev pub cells_of_first : List Row → List (List ℕ)
cells_of_first [] = []
cells_of_first (row ∷ rows) = row.cells

-- the cells of the first record in which something stands
abbrev pub first_cells : List Row → List (List ℕ)
first_cells rows = cells_of_first (filled_from rows)

-- a record in which something stands is among some
abbrev pub has_content : List Row → Bool
has_content rows = not (is_blank_row (first_cells rows))

-- a record in which something stands, if there is one
abbrev pub is_filled : Option Row → Bool
is_filled None = false
is_filled (Some row) = not (is_blank_row row.cells)

-- a record in which something stands is behind so many others
abbrev pub has_content_at : ℕ → List Row → Bool
has_content_at place rows = is_filled (slice_get rows place)

-- the header of a text: the first record in which something stands
abbrev pub header_cells : List ℕ → List (List ℕ)
header_cells text = first_cells (rows_at_end (read_of (without_mark text)))

-- a cell is this header
abbrev pub has_header : List ℕ → List (List ℕ) → Bool
has_header key cells = list_any (λ cell. same (key_of cell) key) cells

-- a kind of column is that of the durations
abbrev pub is_duration : Option Column → Bool
is_duration None = false
is_duration (Some kind) = same_kind columns.Duration kind

-- a header is `duration`, or another word for it
abbrev pub is_duration_key : List ℕ → Bool
is_duration_key key = same key (codes "duration") || is_duration (synonym_kind key)

-- a cell is a header of durations
abbrev pub has_duration : List (List ℕ) → Bool
has_duration cells = list_any (λ cell. is_duration_key (key_of cell)) cells

-- two cells are these headers
abbrev pub has_headers : List ℕ → List ℕ → List (List ℕ) → Bool
has_headers first second cells =
    if has_header first cells then has_header second cells else false

-- the kind of list with a header: activities have durations, orders have machines
abbrev pub kind_of_header : List (List ℕ) → Option ListKind
kind_of_header cells =
    if has_duration cells then Some kinds.Activities
    else if has_headers (codes "order") (codes "machine") cells then Some kinds.Orders
    else None

-- the part of a text that a reader takes
abbrev pub front : List ℕ → List ℕ
front text = take longest_text text

-- the kind by the header of a text
abbrev pub header_kind : List ℕ → Option ListKind
header_kind text = kind_of_header (header_cells (front text))

-- a text is a project file
abbrev pub IsProjectFile : List ℕ → Type 0
IsProjectFile text = (p : Project) × SaysProject text p

-- a text names an instance of a job shop file
abbrev pub NamesInstance : List ℕ → Type 0
NamesInstance text = (plain text ≡ Ok tt) × (1 ≤ length (names_of text))

-- a text is a project file, or names an instance of a job shop file
abbrev pub IsPlanFile : List ℕ → Type 0
IsPlanFile text = IsProjectFile text ⊎ NamesInstance text

-- a text is a list of a kind, or no list; a project file and a job shop file are no lists
abbrev pub IsKind : List ℕ → Option ListKind → Type 0
IsKind text (Some kind) = (header_kind text ≡ Some kind) × (IsPlanFile text → ⊥)
IsKind text None = (header_kind text ≡ None) ⊎ IsPlanFile text

-- a fact holds if a test says so, and only then
abbrev pub Decides : Bool → Type 0 → Type 0
Decides true Holds = Holds
Decides false Holds = Holds → ⊥

-- no text that is read as a project is a list
abbrev pub ProjectsAreNoLists : Type 0
ProjectsAreNoLists = (text : List ℕ) (p : Project) (kind : ListKind)
    → SaysProject text p → IsKind text (Some kind) → ⊥

-- no text that is read as a job shop, of whatever instance, is a list
abbrev pub ShopsAreNoLists : Type 0
ShopsAreNoLists = (text name : List ℕ) (shop : Shop) (kind : ListKind)
    → Says name text shop → IsKind text (Some kind) → ⊥

-- a text is a list of one kind at most
abbrev pub KindsAreSingle : Type 0
KindsAreSingle = (text : List ℕ) (kind other : Option ListKind)
    → IsKind text kind → IsKind text other → kind ≡ other
