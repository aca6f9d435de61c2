-- The sheet of a project's starts whose activities have ids (docs/definitions.md, "Reports").
use Rattle.std.specs.Prelude.{ℕ, ◌+◌, ◌-◌, Bool, ◌&&◌, if◌then◌else◌, not, is_some, codes, map}
use Rattle.std.specs.Prelude.{List, [], ◌∷◌, Option, Some, None, filter, length, nat_lt}
use Rattle.std.specs.List.{list_all, range_with_len}
use Rattle.plan_table.specs.Names.{Name, first_name}
use Rattle.plan_net.specs.Network.{Net, count_of, duration_of}
use Rattle.plan_report.specs.Sheet.{IdEntry, Sheet}
use Rattle.plan_report.specs.StartsText.{activity_entries}
use Rattle.plan_report.specs.Waits.{is_wait, place_before}
use Rattle.plan_report.specs.declared.sheet.Absence.TheVariants as absences

-- an activity has an id
abbrev pub is_named : List Name → ℕ → Bool
is_named ids j = is_some (first_name j ids)

-- the activities between the first and the last
abbrev pub inner_activities : Net → List ℕ
inner_activities net = range_with_len 2 (count_of net - 2)

-- The number of the first activity behind the rows of a table. The rows are the activities from 2
-- on, as many as have an id.
unfoldable pub first_behind : List Name → Net → ℕ
first_behind ids net = length (filter (is_named ids) (inner_activities net)) + 2

-- an activity before another one has an id, and one that isn't before it is a wait
abbrev pub is_placed : List Name → Net → ℕ → ℕ → Bool
is_placed ids net behind j =
    if nat_lt j behind then is_named ids j else is_wait behind net j

abbrev pub are_inner_placed : List Name → Net → Bool
are_inner_placed ids net =
    list_all (is_placed ids net (first_behind ids net)) (inner_activities net)

-- the first and the last activity have no id, and all others have one or are waits behind these
abbrev pub are_complete : List Name → Net → Bool
are_complete ids net =
    not (is_named ids 1) && not (is_named ids (count_of net)) && are_inner_placed ids net

-- the id of an activity, empty if it has none
abbrev pub name_or_empty : Option Name → List ℕ
name_or_empty None = []
name_or_empty (Some id) = id.name

abbrev pub id_of : List Name → ℕ → List ℕ
id_of ids j = name_or_empty (first_name j ids)

-- an activity by its id: its row has the duration, the start and the end behind the id
abbrev pub id_entry : List Name → Net → ℕ → IdEntry
id_entry ids net j = record {
  id = id_of ids j;
  entry = record {
    keys = duration_of net j ∷ [];
    duration = duration_of net j;
    absence = absences.Never;
  };
}

-- the activities with ids
abbrev pub row_entries : List Name → Net → List IdEntry
row_entries ids net = map (id_entry ids net) (range_with_len 2 (first_behind ids net - 2))

abbrev pub id_entries : List Name → Net → List IdEntry
id_entries ids net = if are_complete ids net then row_entries ids net else []

-- the waits behind them, each as the place of the activity that it is behind
abbrev pub places_from : Net → ℕ → List ℕ
places_from net behind = map (place_before net) (range_with_len behind (count_of net - behind))

abbrev pub wait_places : List Name → Net → List ℕ
wait_places ids net =
    if are_complete ids net then places_from net (first_behind ids net) else []

-- the sheet of a project's starts, as `schedule` prints it with ids or with numbers
unfoldable pub id_sheet : List Name → Net → Sheet
id_sheet ids net = record {
  columns = codes "act" ∷ codes "d" ∷ codes "start" ∷ codes "end" ∷ [];
  entries = activity_entries net;
  by_id = id_entries ids net;
  waits = wait_places ids net;
}
