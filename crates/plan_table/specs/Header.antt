-- The header of a table: what each column has.
use Rattle.std.specs.Prelude.{ℕ, ◌+◌, ◌==◌, ◌&&◌, ◌||◌, Bool, if◌then◌else◌, List, [], ◌∷◌, ◌++◌, Result, Ok, length, map, not, nat_le, codes}
use Rattle.std.specs.List.{list_any, sum_by}
use Rattle.std.specs.Char.{to_ascii_lowercase}
use Rattle.std.specs.String.{string_bytes}
use Rattle.plan_table.specs.declared.fault.TableCode.TheVariants as code
use Rattle.plan_table.specs.declared.header.Column.{Column}
use Rattle.plan_table.specs.declared.header.Column.TheVariants as columns
use Rattle.plan_table.specs.declared.header.Head as declared
use Rattle.plan_psplib.specs.Lines.{trim}
use Rattle.plan_psplib.specs.Head.{most_resources}
use Rattle.plan_table.specs.Reading.{Fault, fault, check, ◌>>=◌}
use Rattle.plan_table.specs.Cells.{same, name}

-- a column: its kind, its header in lower case, and its header as the name of a resource
pub record Head : Type 0 where
  pub column : Column
  pub key : List ℕ
  pub name : List ℕ

-- the same, as the program keeps it
abbrev pub head_of : declared.Head → Head
head_of h = record { column = h.column; key = h.key.items; name = string_bytes h.name }

-- a header in lower case, without the blanks at its ends
abbrev pub key_of : List ℕ → List ℕ
key_of cell = map to_ascii_lowercase (trim cell)

-- the column of names has two headers, that of predecessors three
abbrev pub is_name_key : List ℕ → Bool
is_name_key key = same key (codes "name") || same key (codes "task")

abbrev pub is_predecessors_key : List ℕ → Bool
is_predecessors_key key = same key (codes "predecessors") || same key (codes "after") || same key (codes "depends on")

-- what a column has by its header alone; any other header than these is the name of a resource,
-- until the cells settle what it is
abbrev pub column_of : List ℕ → Column
column_of key =
    if length key == 0 then columns.Nothing
    else if same key (codes "duration") then columns.Duration
    else if same key (codes "id") then columns.Id
    else if is_name_key key then columns.Name
    else if is_predecessors_key key then columns.Predecessors
    else columns.Resource

-- two headers of one column: the same header twice, or two words for one kind
abbrev pub same_column : List ℕ → List ℕ → Bool
same_column a b =
    same a b
    || (is_name_key a && is_name_key b)
    || (is_predecessors_key a && is_predecessors_key b)

-- a column has this header, or another word for it
abbrev pub has_column : List ℕ → List Head → Bool
has_column key heads = list_any (λ head. same_column head.key key) heads

-- the number of a kind of column
abbrev pub kind_number : Column → ℕ
kind_number columns.Duration = 0
kind_number columns.Id = 1
kind_number columns.Name = 2
kind_number columns.Predecessors = 3
kind_number columns.Resource = 4
kind_number columns.Note = 5
kind_number columns.Nothing = 6

abbrev pub same_kind : Column → Column → Bool
same_kind a b = kind_number a == kind_number b

-- one of the columns is of a kind
abbrev pub has_kind : Column → List Head → Bool
has_kind kind heads = list_any (λ head. same_kind kind head.column) heads

-- 1 for a resource
abbrev pub resource_count : Column → ℕ
resource_count columns.Resource = 1
resource_count columns.Duration = 0
resource_count columns.Id = 0
resource_count columns.Name = 0
resource_count columns.Predecessors = 0
resource_count columns.Note = 0
resource_count columns.Nothing = 0

-- how many columns are resources
abbrev pub resources_in : List Head → ℕ
resources_in heads = sum_by (λ head. resource_count head.column) heads

-- a column with a header comes once, by whatever word
abbrev pub once : List Head → List ℕ → Result (Unit {0}) Fault
once before cell = if length (key_of cell) == 0 || not (has_column (key_of cell) before) then Ok tt else fault code.ColumnTwice 0 (trim cell)

-- the most columns with other headers than the known ones
abbrev pub most_others : ℕ
most_others = 100

-- a column behind others
unfoldable pub head_read : ℕ → List Head → List ℕ → Result Head Fault
head_read line before cell = do
  new ← once before cell
  room ← check (nat_le (resources_in before + resource_count (column_of (key_of cell))) most_others) code.Limit line
  text ← name line (trim cell)
  Ok (record { column = column_of (key_of cell); key = key_of cell; name = text })

-- the columns of a header, behind others
unfoldable pub heads_at : ℕ → List Head → List (List ℕ) → Result (List Head) Fault
heads_at line before [] = Ok before
heads_at line before (cell ∷ cells) = do
  head ← head_read line before cell
  heads_at line (before ++ head ∷ []) cells

-- the columns of a list, once it is settled what they are: at most 16 are resources, and one has the
-- durations
unfoldable pub heads_checked : ℕ → List Head → Result (Unit {0}) Fault
heads_checked line heads = do
  few ← check (nat_le (resources_in heads) most_resources) code.Limit line
  check (has_kind columns.Duration heads) code.NoDuration 0
