-- Capacities that are given beside a table, and override those in it.
use Rattle.std.specs.Prelude.{ℕ, ◌&&◌, Bool, true, false, if◌then◌else◌, List, [], ◌∷◌, Option, Some, None, Result, Ok, fold, nat_le}
use Rattle.std.specs.List.{list_any}
use Rattle.plan_psplib.specs.Tokens.{greatest}
use Rattle.plan_table.specs.declared.fault.TableCode.TheVariants as code
use Rattle.plan_table.specs.declared.header.Column.{Column}
use Rattle.plan_table.specs.declared.header.Column.TheVariants as columns
use Rattle.plan_table.specs.declared.overrides.Override as declared
use Rattle.plan_table.specs.Cells.{same_name}
use Rattle.plan_table.specs.Header.{Head}
use Rattle.plan_table.specs.Reading.{Fault, fault, check, ◌>>=◌}

-- an amount of the resource of this name
pub record Override : Type 0 where
  pub resource : List ℕ
  pub amount : ℕ

-- the same, as the program keeps it
abbrev pub override_of : declared.Override → Override
override_of o = record { resource = o.resource.now; amount = o.amount }

abbrev pub is_resource_column : Column → Bool
is_resource_column columns.Resource = true
is_resource_column columns.Duration = false
is_resource_column columns.Id = false
is_resource_column columns.Name = false
is_resource_column columns.Predecessors = false
is_resource_column columns.Note = false
is_resource_column columns.Nothing = false

-- a column is the resource of a name, without regard to ASCII case
abbrev pub is_resource : List ℕ → Head → Bool
is_resource name head = is_resource_column head.column && same_name head.name name

-- a resource that the table has
abbrev pub known_resource : Bool → List ℕ → Result (Unit {0}) Fault
known_resource known name = if known then Ok tt else fault code.NoResource 0 name

-- an override names a resource of the table, and its amount is within the limit
unfoldable pub override_checked : List Head → Override → Result (Unit {0}) Fault
override_checked heads o = do
  known ← known_resource (list_any (is_resource o.resource) heads) o.resource
  check (nat_le o.amount greatest) code.Limit 0

unfoldable pub overrides_checked : List Head → List Override → Result (Unit {0}) Fault
overrides_checked heads [] = Ok tt
overrides_checked heads (o ∷ os) = do
  good ← override_checked heads o
  overrides_checked heads os

-- the amount with that of an override, if it is for the resource of this name
abbrev pub overridden : List ℕ → Option ℕ → Override → Option ℕ
overridden name found o = if same_name o.resource name then Some o.amount else found

-- the amount of the last override for a resource
abbrev pub given : List Override → List ℕ → Option ℕ
given overrides name = fold (overridden name) None overrides

-- the amount that is given, or else that of the row of the capacities
abbrev pub or_row : Option ℕ → Option ℕ → Option ℕ
or_row (Some n) row = Some n
or_row None row = row
