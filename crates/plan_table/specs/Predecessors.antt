-- Predecessors in a cell: activities by their ids, or by a name that one activity alone has.
use Rattle.std.specs.Prelude.{ℕ, ◌+◌, ◌-◌, if◌then◌else◌, Bool, List, [], ◌∷◌, ◌++◌, Option, Some, None, Result, Ok, codes, drop, length, map, take}
use Rattle.std.specs.List.{list_any}
use Rattle.plan_psplib.specs.Lines.{words}
use Rattle.plan_table.specs.declared.fault.TableCode.TheVariants as code
use Rattle.plan_table.specs.declared.predecessors.Label as declared
use Rattle.plan_table.specs.Cells.{as_blank, same}
use Rattle.plan_table.specs.Limits.{is_printable}
use Rattle.plan_table.specs.Reading.{Fault, fault, check, ◌>>=◌}

-- what other rows can name an activity by: its id and its name
pub record Label : Type 0 where
  pub id : List ℕ
  pub name : List ℕ

-- the same, as the program keeps it
abbrev pub label_of : declared.Label → Label
label_of l = record { id = l.id.items; name = l.name.items }

-- an activity has an id, a name
abbrev pub has_id : List ℕ → Label → Bool
has_id word label = same label.id word

abbrev pub has_name : List ℕ → Label → Bool
has_name word label = same label.name word

-- the number of the first activity with an id, where the first one of the list has the number n
abbrev pub number_from : ℕ → List Label → List ℕ → Option ℕ
number_from n [] word = None
number_from n (label ∷ labels) word = if has_id word label then Some n else number_from (n + 1) labels word

-- a number, unless it is one of several
abbrev pub if_alone : Bool → ℕ → Option ℕ
if_alone again n = if again then None else Some n

-- the number of the only activity with a name
abbrev pub named_from : ℕ → List Label → List ℕ → Option ℕ
named_from n [] word = None
named_from n (label ∷ labels) word = if has_name word label then if_alone (list_any (has_name word) labels) n else named_from (n + 1) labels word

abbrev pub or_else : Option ℕ → Option ℕ → Option ℕ
or_else (Some n) other = Some n
or_else None other = other

-- the number of the activity with an id, or else of the only one with this name
unfoldable pub number_by : List Label → List ℕ → Option ℕ
number_by labels word = or_else (number_from 2 labels word) (named_from 2 labels word)

-- a word without the link type `FS`, from finish to start, at its end
abbrev pub linked_from : List Label → List ℕ → List ℕ → Option ℕ
linked_from labels front end = if same end (codes "FS") then number_by labels front else None

abbrev pub linked : List Label → List ℕ → Option ℕ
linked labels word = linked_from labels (take (length word - 2) word) (drop (length word - 2) word)

-- the words in a cell
abbrev pub ids_in : List ℕ → List (List ℕ)
ids_in cell = words (map as_blank cell)

abbrev pub known : Option ℕ → ℕ → List ℕ → Result ℕ Fault
known None line id = fault code.NoSuchId line id
known (Some n) line id = Ok n

-- the number of a predecessor; only a word that names no activity is read without `FS`
unfoldable pub predecessor : List Label → ℕ → List ℕ → Result ℕ Fault
predecessor labels line word = do
  text ← check (is_printable word) code.NotText line
  known (or_else (number_by labels word) (linked labels word)) line word

-- the numbers of predecessors, behind those before
unfoldable pub predecessors_at : List Label → ℕ → List ℕ → List (List ℕ) → Result (List ℕ) Fault
predecessors_at labels line before [] = Ok before
predecessors_at labels line before (word ∷ others) = do
  n ← predecessor labels line word
  predecessors_at labels line (before ++ n ∷ []) others

-- the numbers of the predecessors in a cell
abbrev pub predecessors : List Label → ℕ → List ℕ → Result (List ℕ) Fault
predecessors labels line cell = predecessors_at labels line [] (ids_in cell)
