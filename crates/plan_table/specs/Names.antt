-- The ids and names in a project file: lines in the section behind the availabilities.
use Rattle.std.specs.Prelude.{◌≡◌, ℕ, ◌==◌, Bool, if◌then◌else◌, List, [], ◌∷◌, Option, Some, None, codes, drop, take, length}
use Rattle.std.specs.List.{filter_map, find, position}
use Rattle.plan_table.specs.declared.names.NameLine as declared
use Rattle.plan_table.specs.Numbered.{numbered}
use Rattle.plan_table.specs.Table.{Activity, Table}
use Rattle.plan_psplib.specs.Lines.{NumberedLine, lines, is_blank, trim_start}
use Rattle.plan_psplib.specs.Numbers.{number}
use Rattle.plan_psplib.specs.Sections.{begins_with, information_title, availabilities_title}

-- a name or an id, and the number of what has it
pub record Name : Type 0 where
  pub number : ℕ
  pub name : List ℕ

-- the same, as the program keeps it
abbrev pub name_of : declared.NameLine → Name
name_of n = record { number = n.number; name = n.name.now }

-- the lines behind the first one that begins with a front
abbrev pub behind : List ℕ → List NumberedLine → List NumberedLine
behind front [] = []
behind front (line ∷ lines) = if begins_with line.text front then lines else behind front lines

-- the section of the names: the lines behind the first information title that stands behind the
-- availabilities
abbrev pub name_section : List ℕ → List NumberedLine
name_section text = behind information_title (behind availabilities_title (lines text))

-- a number before a name that isn't empty
abbrev pub numbered_name : Option ℕ → List ℕ → Option Name
numbered_name None name = None
numbered_name (Some n) [] = None
numbered_name (Some n) (byte ∷ name) = Some (record { number = n; name = byte ∷ name })

-- the number of a word, and the name behind it
abbrev pub name_cut : Option ℕ → List ℕ → Option Name
name_cut None text = None
name_cut (Some end) text = numbered_name (number (take end text)) (trim_start (drop end text))

-- a number, and behind it a name
abbrev pub name_in : List ℕ → Option Name
name_in text = name_cut (position is_blank text) text

-- what a line names: it begins with a key, then come a number and a name
abbrev pub named : List ℕ → List ℕ → Option Name
named key text = if begins_with text key then name_in (trim_start (drop (length key) text)) else None

-- the names behind a key, in the order of their lines
abbrev pub names_behind : List ℕ → List ℕ → List Name
names_behind key text = filter_map (λ line. named key line.text) (name_section text)

abbrev pub activity_key : List ℕ
activity_key = codes "name "

abbrev pub resource_key : List ℕ
resource_key = codes "resource "

abbrev pub id_key : List ℕ
id_key = codes "id "

-- a number with its name; an empty name is none
abbrev pub name_at : ℕ → List ℕ → List Name
name_at n [] = []
name_at n (byte ∷ name) = record { number = n; name = byte ∷ name } ∷ []

-- the names of the activities of a table, which have the numbers from 2 on
abbrev pub activity_names_of : Table → List Name
activity_names_of t = numbered (λ j a. name_at j a.name) 2 t.activities

-- the names of the resources of a table
abbrev pub resource_names_of : Table → List Name
resource_names_of t = numbered (λ i r. record { number = i; name = r.name } ∷ []) 1 t.resources

-- the names in a text are those of a table
pub record SaysNames (text : List ℕ) (t : Table) : Type 0 where
  pub activities : names_behind activity_key text ≡ activity_names_of t
  pub resources : names_behind resource_key text ≡ resource_names_of t

-- the ids of the activities of a table; a table without ids of its own has none
abbrev pub ids_from : Bool → List Activity → List Name
ids_from own_ids activities = if own_ids then numbered (λ j a. record { number = j; name = a.id } ∷ []) 2 activities else []

-- the ids in a text are those of a table
abbrev pub SaysIds : List ℕ → Table → Type 0
SaysIds text t = names_behind id_key text ≡ ids_from t.own_ids t.activities

-- the first name of a number
abbrev pub first_name : ℕ → List Name → Option Name
first_name n names = find (λ name. name.number == n) names
