-- The waits of a project file: the activities that `plan import` writes for the lags of a list,
-- such as `A+2d`. Their ids are `wait+0`, `wait+1` and so on (docs/definitions.md, "Runs").
use Rattle.std.specs.Prelude.{ℕ, ◌-◌, ◌==◌, ◌&&◌, Bool, false, not, if◌then◌else◌, codes}
use Rattle.std.specs.Prelude.{List, Option, Some, None, Result, Ok, Err, drop, filter, is_some}
use Rattle.std.specs.Prelude.{nat_le, nat_lt}
use Rattle.std.specs.List.{list_all, slice_get}
use Rattle.plan_net.specs.Network.{count_of}
use Rattle.plan_psplib.specs.Document.{Document}
use Rattle.plan_psplib.specs.Numbers.{number}
use Rattle.plan_psplib.specs.Project.{Project, project_of}
use Rattle.plan_psplib.specs.Sections.{begins_with}
use Rattle.plan_psplib.specs.declared.text.fault.Fault.{Fault}
use Rattle.plan_table.specs.Names.{Name, first_name}
use Rattle.plan_report.specs.IdSheets.{first_behind}
use Rattle.plan_report.specs.Waits as waits

-- the number in the id of a wait, such as 1 in `wait+1`
abbrev pub wait_number : List ℕ → Option ℕ
wait_number id = if begins_with id (codes "wait+") then number (drop 5 id) else None

-- the ids of the rows of a list: those that aren't the ids of waits
abbrev pub is_row_id : Name → Bool
is_row_id id = not (is_some (wait_number id.name))

abbrev pub row_ids : List Name → List Name
row_ids ids = filter is_row_id ids

-- the number of an activity is that of wait k: the first wait is the first activity behind the rows
abbrev pub has_place : ℕ → ℕ → Option ℕ → Bool
has_place behind j None = false
has_place behind j (Some k) = nat_le k j && (j - k == behind)

-- the number of an activity, if it is between the first and the last
abbrev pub inner_number : Project → ℕ → Option ℕ
inner_number p j = if nat_le 2 j && nat_lt j (count_of p.network) then Some j else None

-- an activity has no name
abbrev pub is_unnamed : List Name → ℕ → Bool
is_unnamed names j = not (is_some (first_name j names))

-- an activity needs nothing
abbrev pub are_zero : Option (List ℕ) → Bool
are_zero None = false
are_zero (Some needs) = list_all (λ need. need == 0) needs

abbrev pub needs_nothing : Project → ℕ → Bool
needs_nothing p j = are_zero (slice_get p.needs (j - 1))

-- an activity without a name and without needs stands between two rows
abbrev pub is_lag : Project → List Name → ℕ → ℕ → Bool
is_lag p names behind j =
    is_unnamed names j && needs_nothing p j && waits.is_wait behind p.network j

-- the id of an activity with this number is that of a wait
abbrev pub is_wait_id : Project → List Name → ℕ → Name → Option ℕ → Bool
is_wait_id p names behind id None = false
is_wait_id p names behind id (Some j) =
    has_place behind j (wait_number id.name) && is_lag p names behind j

-- an id is that of a wait, if `behind` is the number of the first activity behind the rows
abbrev pub is_wait : Project → List Name → ℕ → Name → Bool
is_wait p names behind id = is_wait_id p names behind id (inner_number p id.number)

-- the ids without those of waits
abbrev pub without_waits : Project → List Name → ℕ → List Name → List Name
without_waits p names behind ids = filter (λ id. not (is_wait p names behind id)) ids

-- the ids of the activities that are shown, in a file with this document; without one, all ids
abbrev pub shown_ids : Result Document Fault → List Name → List Name → List Name
shown_ids (Err fault) names ids = ids
shown_ids (Ok d) names ids =
    without_waits (project_of d) names (first_behind (row_ids ids) (project_of d).network) ids
