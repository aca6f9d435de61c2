-- The reasons for which a table is refused.
use Rattle.std.specs.Prelude.{◌≡◌, ◌⊎◌, ℕ, zero, suc, ◌-◌, List, [], ◌∷◌, Ok, Err}
use Rattle.std.specs.List.{flat_map}
use Rattle.plan_net.specs.Cycle.{IsNamedCycle}
use Rattle.plan_net.specs.Limits.{IsSound}
use Rattle.plan_table.specs.declared.fault.TableFault as declared
use Rattle.plan_table.specs.declared.fault.TableCode.TheVariants as code
use Rattle.plan_table.specs.declared.fault.ReadError.{ReadError}
use Rattle.plan_table.specs.declared.fault.ReadError.TheVariants as errors
use Rattle.plan_table.specs.Jobs.{network_of, table_jobs}
use Rattle.plan_table.specs.Reading.{fault_of}
use Rattle.plan_table.specs.Listing.{table_read_with}
use Rattle.plan_table.specs.Needs.{table_fits}
use Rattle.plan_table.specs.Overrides.{Override}
use Rattle.plan_table.specs.Table.{Activity, Table}

-- the id of the activity at a place
abbrev pub id_from : List Activity → ℕ → List ℕ
id_from [] k = []
id_from (a ∷ others) zero = a.id
id_from (a ∷ others) (suc k) = id_from others k

-- the id of activity j; the first activity is 2
abbrev pub id_at : List Activity → ℕ → List ℕ
id_at activities j = id_from activities (j - 2)

-- the ids of activities, a space before each
abbrev pub spaced_ids : List Activity → List ℕ → List ℕ
spaced_ids activities numbers = flat_map (λ j. 32 ∷ id_at activities j) numbers

-- the activities of a table have a cycle, and the fault names it
abbrev pub NamesCycle : Table → declared.TableFault → Type 0
NamesCycle t fault = (fault.code ≡ code.Cycle) × (fault.line ≡ 0)
    × ((members : List ℕ) × IsNamedCycle (network_of (table_jobs t)) members × (fault.word.items ≡ spaced_ids t.activities members))

-- what is wrong with a table: its activities have a cycle, or else a need is above its capacity; out of
-- memory may come at any time
abbrev pub IsCyclic : Table → ReadError → Type 0
IsCyclic t errors.Memory = Unit {0}
IsCyclic t (errors.Fault f) = NamesCycle t f

abbrev pub IsUnfit : Table → declared.TableFault → Type 0
IsUnfit t f = NamesCycle t f ⊎ (IsSound (network_of (table_jobs t)) × (table_fits t ≡ Err (fault_of f)))

-- a text with overrides has no sound table: the first check that it fails, or else a cycle; out of
-- memory may come at any time
abbrev pub IsUnsoundWith : List Override → List ℕ → ReadError → Type 0
IsUnsoundWith overrides text errors.Memory = Unit {0}
IsUnsoundWith overrides text (errors.Fault f) =
    (table_read_with overrides text ≡ Err (fault_of f)) ⊎ ((t : Table) × (table_read_with overrides text ≡ Ok t) × NamesCycle t f)

-- a text with overrides is refused for the first check that it fails, or else for a cycle, or else for
-- a need above its capacity; out of memory may come at any time
abbrev pub IsRefusedWith : List Override → List ℕ → ReadError → Type 0
IsRefusedWith overrides text errors.Memory = Unit {0}
IsRefusedWith overrides text (errors.Fault f) =
    (table_read_with overrides text ≡ Err (fault_of f)) ⊎ ((t : Table) × (table_read_with overrides text ≡ Ok t) × IsUnfit t f)

-- the same without overrides
abbrev pub IsRefused : List ℕ → ReadError → Type 0
IsRefused text e = IsRefusedWith [] text e

-- the fault names the activities of a cycle, or memory ran out
abbrev pub IsCycleFault : List Activity → List ℕ → ReadError → Type 0
IsCycleFault activities members errors.Memory = Unit {0}
IsCycleFault activities members (errors.Fault f) = (f.code ≡ code.Cycle) × (f.line ≡ 0) × (f.word.items ≡ spaced_ids activities members)
