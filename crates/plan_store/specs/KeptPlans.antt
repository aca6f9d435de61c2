-- The plans of each desk that a book keeps in memory (docs/definitions.md, "Tables").
use Rattle.std.specs.Prelude.{◌≡◌, ℕ, ◌++◌, ◌∷◌, [], Bool, if◌then◌else◌, nat_lt, List, map, filter, IsSome, IsTrue}
use Rattle.std.specs.Option.{option_map_or}
use Rattle.std.specs.BTreeMap.{get_by_text}
use Rattle.sqlite.specs.State.{State, HasCleanDisk}
use Rattle.plan_rows.specs.declared.kinds.PlanKind.{PlanKind}
use Rattle.plan_rows.specs.declared.rows.PlanEntry.{PlanEntry}
use Rattle.plan_rows.specs.World.{Text, Plan, same_text, is_plan_of}
use Rattle.plan_rows.specs.Books.{entry_of, entry_in}
use Rattle.plan_store.specs.declared.kept_plans.KeptPlans.{KeptPlans}
use Rattle.plan_store.specs.Stores.{world_of}

-- the kept plans of a desk, in the order of writing
abbrev pub entries_of : KeptPlans → Text → List PlanEntry
entries_of kept desk = option_map_or (λ list. list.items) (get_by_text kept.lists desk) []

-- there is a list for the desk, which may be empty
abbrev pub HasList : KeptPlans → Text → Type 0
HasList kept desk = IsSome (get_by_text kept.lists desk)

-- by number
abbrev pub is_lower : PlanEntry → PlanEntry → Bool
is_lower a b = nat_lt a.n b.n

abbrev pub entry_before : ℕ × PlanKind → ℕ × PlanKind → Bool
entry_before a b = nat_lt a.0 b.0

-- the numbers and kinds of a desk's plans, in the order of writing
abbrev pub keys_of : Text → List Plan → List (ℕ × PlanKind)
keys_of desk plans = map entry_of (filter (is_plan_of desk) plans)

-- the kept plans of each desk are those of these plans
abbrev pub HoldsPlans : List Plan → KeptPlans → Type 0
HoldsPlans plans kept = (desk : Text) → map entry_in (entries_of kept desk) ≡ keys_of desk plans

-- the list of one desk has one entry more
abbrev pub AddsEntry : KeptPlans → KeptPlans → Text → PlanEntry → Type 0
AddsEntry old new desk entry =
    (other : Text) → entries_of new other
    ≡ (if same_text desk other then entries_of old other ++ entry ∷ [] else entries_of old other)

-- the kept plans are those in the tables, if the tables can be read
abbrev pub KeepsPlans : State → KeptPlans → Type 0
KeepsPlans s kept =
    HasCleanDisk s → IsTrue s.is_open → HoldsPlans (world_of s.now.trees).plans kept
