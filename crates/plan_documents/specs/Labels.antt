-- Activities by their ids and names (docs/definitions.md, "Runs").
use Rattle.std.specs.Prelude.{ℕ, List, ◌++◌, Option, Some, None, codes, option_map}
use Rattle.std.specs.Fmt.{decimal}
use Rattle.std.specs.Str.Lossy.{utf8_lossy}
use Rattle.plan_table.specs.Names.{Name, first_name}

-- the first name of a number
abbrev pub name_for : List Name → ℕ → Option (List ℕ)
name_for names n = option_map (λ name. name.name) (first_name n names)

-- the id and the name, or the one that there is
abbrev pub id_and_name : Option (List ℕ) → Option (List ℕ) → Option (List ℕ)
id_and_name None None = None
id_and_name None (Some name) = Some (utf8_lossy name)
id_and_name (Some id) None = Some (utf8_lossy id)
id_and_name (Some id) (Some name) = Some (utf8_lossy id ++ codes " " ++ utf8_lossy name)

-- the label of an activity with these ids and names
abbrev pub id_label : List Name → List Name → ℕ → Option (List ℕ)
id_label ids names n = id_and_name (name_for ids n) (name_for names n)

-- an activity by its label, or else by its number
abbrev pub activity_called : ℕ → Option (List ℕ) → List ℕ
activity_called n None = codes "activity " ++ decimal n
activity_called n (Some label) = label
