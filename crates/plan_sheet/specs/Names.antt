-- Names and labels (docs/definitions.md, "Sheets").
use Rattle.std.specs.Prelude.{ℕ, nat_lt, Bool, true, false, if◌then◌else◌, List, [], ◌∷◌, ◌++◌}
use Rattle.std.specs.Prelude.{length, map, Option, Some, None, codes}
use Rattle.std.specs.Option.{option_map}
use Rattle.std.specs.Str.Lossy.{utf8_lossy}
use Rattle.std.specs.Fmt.{decimal}
use Rattle.plan_table.specs.Names.{Name, first_name, name_of}
use Rattle.plan_sheet.specs.declared.names.SheetNames as declared

-- the names for a sheet, by their numbers: those of activities or of machines, those of resources
-- or of orders, the ids of activities, and the texts for two columns of a table: the resources and
-- the predecessors of activities
pub record SheetNames : Type 0 where
  pub lines : List Name
  pub legend : List Name
  pub ids : List Name
  pub resources : List Name
  pub predecessors : List Name

-- the same, as the program keeps it
abbrev pub names_of : declared.SheetNames → SheetNames
names_of n =
    record {
      lines = map name_of n.lines.now;
      legend = map name_of n.legend.now;
      ids = map name_of n.ids.now;
      resources = map name_of n.resources.now;
      predecessors = map name_of n.predecessors.now;
    }

-- names without ids and without texts for columns
abbrev pub plain_names : List Name → List Name → SheetNames
plain_names lines legend =
    record { lines = lines; legend = legend; ids = []; resources = []; predecessors = [] }

-- a number with an empty name
abbrev pub unnamed : Name → Name
unnamed name = record { number = name.number; name = [] }

-- the same ids and texts for columns, but each of them empty, and no names
abbrev pub bare : SheetNames → SheetNames
bare n =
    record {
      lines = [];
      legend = [];
      ids = map unnamed n.ids;
      resources = map unnamed n.resources;
      predecessors = map unnamed n.predecessors;
    }

-- a name as text: U+FFFD in place of bytes that aren't UTF-8; nothing for no name
abbrev pub shown_name : Option (List ℕ) → List ℕ
shown_name None = []
shown_name (Some name) = utf8_lossy name

-- the first name of a number; nothing if it has none
abbrev pub name_text : List Name → ℕ → List ℕ
name_text names n = shown_name (option_map (λ name. name.name) (first_name n names))

-- a name behind a space; nothing for an empty one
abbrev pub behind_space : List ℕ → List ℕ
behind_space name = if nat_lt (length name) 1 then [] else codes " " ++ name

-- a number, and its name behind a space
unfoldable pub label : List Name → ℕ → List ℕ
label names n = decimal n ++ behind_space (name_text names n)

-- a text, or a number if the text is empty
abbrev pub text_or_number : List ℕ → ℕ → List ℕ
text_or_number text n = if nat_lt (length text) 1 then decimal n else text

-- the id of a number, or else the number
unfoldable pub id_text : List Name → ℕ → List ℕ
id_text ids n = text_or_number (name_text ids n) n

-- the id of a number, or else the number, and its name behind a space
unfoldable pub id_label : List Name → List Name → ℕ → List ℕ
id_label ids names n = id_text ids n ++ behind_space (name_text names n)

-- there are ids
abbrev pub has_ids : List Name → Bool
has_ids [] = false
has_ids (id ∷ ids) = true

-- there is a name
abbrev pub has_name : Option (List ℕ) → Bool
has_name None = false
has_name (Some name) = true

-- a number has an id
abbrev pub has_id : List Name → ℕ → Bool
has_id ids n = has_name (option_map (λ name. name.name) (first_name n ids))

-- a number is shown: it has an id, or there are no ids
abbrev pub is_shown : List Name → ℕ → Bool
is_shown [] n = true
is_shown (id ∷ ids) n = has_id (id ∷ ids) n
