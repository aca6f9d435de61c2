-- Needs above the capacities of a table: no schedule can meet them. An activity that takes no time needs
-- nothing.
use Rattle.std.specs.Prelude.{ℕ, ◌+◌, ◌==◌, if◌then◌else◌, List, [], ◌∷◌, ◌++◌, Result, Ok, codes, nat_le, slice_index_or}
use Rattle.std.specs.Fmt.{decimal}
use Rattle.plan_table.specs.declared.fault.TableCode.TheVariants as code
use Rattle.plan_table.specs.Reading.{Fault, fault, ◌>>=◌}
use Rattle.plan_table.specs.Table.{Activity, Resource, Table}

-- the words of the error: a resource, and its capacity
abbrev pub above : Resource → List ℕ
above r = r.name ++ codes " above " ++ decimal r.capacity

-- a need of the row in a line is at most the capacity of the resource
abbrev pub need_fits : ℕ → ℕ → Resource → Result (Unit {0}) Fault
need_fits line need r = if nat_le need r.capacity then Ok tt else fault code.NeedAbove line (above r)

-- the needs of a row from place k on are at most the capacities of the resources from there on
unfoldable pub needs_fit : ℕ → List ℕ → ℕ → List Resource → Result (Unit {0}) Fault
needs_fit line needs k [] = Ok tt
needs_fit line needs k (r ∷ resources) = do
  fits ← need_fits line (slice_index_or needs k 0) r
  needs_fit line needs (k + 1) resources

-- the needs of an activity that takes time are at most the capacities
abbrev pub activity_fits : List Resource → Activity → Result (Unit {0}) Fault
activity_fits resources a = if a.duration == 0 then Ok tt else needs_fit a.line a.needs 0 resources

unfoldable pub activities_fit : List Resource → List Activity → Result (Unit {0}) Fault
activities_fit resources [] = Ok tt
activities_fit resources (a ∷ activities) = do
  fits ← activity_fits resources a
  activities_fit resources activities

-- all needs of a table are at most the capacities, or the first one that isn't
abbrev pub table_fits : Table → Result (Unit {0}) Fault
table_fits t = activities_fit t.resources t.activities
