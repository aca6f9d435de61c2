-- The contracts of a book's calls, for any storage (docs/definitions.md, "Books").
use Rattle.std.specs.Prelude.{◌≡◌, ◌⊎◌, ℕ, ◌+◌, ◌-◌, ◌^◌, ◌≤◌, min, List, Option, Some, None, Result, IfOk, IfErr, OnOk, OnErr, map, string_bytes}
use Rattle.plan_rows.specs.declared.fault.BookFault.{BookFault}
use Rattle.plan_rows.specs.declared.fault.BookFault.TheVariants.{NoMemory, Store}
use Rattle.plan_rows.specs.declared.kinds.Kind.{Kind}
use Rattle.plan_rows.specs.declared.kinds.PlanKind.{PlanKind}
use Rattle.plan_rows.specs.declared.rows.DeskRow.{DeskRow}
use Rattle.plan_rows.specs.declared.rows.CodeRow.{CodeRow}
use Rattle.plan_rows.specs.declared.rows.PlanEntry.{PlanEntry}
use Rattle.plan_rows.specs.declared.rows.BindEntry.{BindEntry}
use Rattle.plan_rows.specs.declared.rows.LagEntry.{LagEntry}
use Rattle.plan_rows.specs.declared.rows.PlanRow.{PlanRow}
use Rattle.plan_rows.specs.World.{Text, Published, Desk, Plan, World}
use Rattle.plan_rows.specs.Views.{View}
use Rattle.plan_rows.specs.Plans.{in_order, lags_of, places_of}
use Rattle.plan_rows.specs.Plans.{code_before, plan_before}

-- The functions and facts of a type of book that contracts use.
pub record Shelf (B : Type 0) : Type 1 where
  -- the rows of its tables
  pub world : B → World
  -- the tables can be read; after an error that closes the store they can't
  pub stands : B → Type 0
  -- the disk has returned what was written
  pub honest : B → Type 0
  -- calls on a book of the type can fail for the store
  pub can_refuse : Type 0
  -- a crash after the last call may leave this office, or tables that hold no office
  pub may_leave : B → Option World → Type 0
  -- the numbers of writing calls that succeeded and that failed
  pub made : B → ℕ
  pub refused : B → ℕ
  -- the number of calls, reading or writing, that failed for the store
  pub denials : B → ℕ
  -- the number of errors of the disk
  pub faults : B → ℕ

-- the count of errors rose, unless it is 2^64 - 1
abbrev pub MoreFaults : ℕ → ℕ → Type 0
MoreFaults old new = min (old + 1) (2 ^ 64 - 1) ≤ new

module _ {B : Type 0} (shelf : Shelf B) (old new : B) where
  -- A call that reads: its result is correct for the tables, which don't change, and a crash leaves
  -- nothing that it couldn't leave before.
  pub record Reads {X : Type 0} (result : Result X BookFault) (Is : X → Type 0) : Type 0 where
    pub honesty : shelf.honest new → shelf.honest old
    pub stood : shelf.honest new → shelf.stands new → shelf.stands old
    pub same : shelf.honest new → shelf.stands new → shelf.world new ≡ shelf.world old
    pub answer : IfOk result (λ x. shelf.honest new → shelf.stands new × Is x)
    pub crash : shelf.honest new → (w : Option World) → shelf.may_leave new w → shelf.may_leave old w
    pub store : IfErr result (λ fault. fault ≡ Store → shelf.can_refuse)
    pub made : shelf.made new ≡ shelf.made old
    pub refused : shelf.refused new ≡ shelf.refused old
    -- errors are counted, and only a counted error closes the tables
    pub counts : shelf.faults old ≤ shelf.faults new
    pub closes : shelf.honest new → shelf.stands old → shelf.stands new ⊎ MoreFaults (shelf.faults old) (shelf.faults new)
    -- failures of the store are counted, and nothing else is
    pub told : OnOk result (shelf.denials new ≡ shelf.denials old)
    pub wanted : IfErr result (λ fault. fault ≡ NoMemory → shelf.denials new ≡ shelf.denials old)
    pub denied : IfErr result (λ fault. fault ≡ Store → shelf.denials new ≡ shelf.denials old + 1)

  -- A call that writes: if it succeeds, the tables are changed, and a crash leaves them as they
  -- are. If it fails, they are as before, and a crash may also leave the changed ones.
  pub record Writes {X : Type 0} (result : Result X BookFault) (change : World → World) : Type 0 where
    pub honesty : shelf.honest new → shelf.honest old
    pub stood : shelf.honest new → shelf.stands new → shelf.stands old
    pub changed : OnOk result (shelf.honest new → shelf.stands new × (shelf.world new ≡ change (shelf.world old)))
    pub same : OnErr result (shelf.honest new → shelf.stands new → shelf.world new ≡ shelf.world old)
    pub durable : OnOk result (shelf.honest new → (w : Option World) → shelf.may_leave new w → w ≡ Some (shelf.world new))
    pub crash : OnErr result (shelf.honest new → (w : Option World) → shelf.may_leave new w
        → shelf.may_leave old w ⊎ (shelf.stands old × (w ≡ Some (change (shelf.world old)))))
    pub store : IfErr result (λ fault. fault ≡ Store → shelf.can_refuse)
    pub counted : OnOk result ((shelf.made new ≡ shelf.made old + 1) × (shelf.refused new ≡ shelf.refused old))
    pub refusal : OnErr result ((shelf.made new ≡ shelf.made old) × (shelf.refused new ≡ shelf.refused old + 1))
    pub counts : shelf.faults old ≤ shelf.faults new
    pub closes : shelf.honest new → shelf.stands old → shelf.stands new ⊎ MoreFaults (shelf.faults old) (shelf.faults new)
    pub told : OnOk result (shelf.denials new ≡ shelf.denials old)
    pub wanted : IfErr result (λ fault. fault ≡ NoMemory → shelf.denials new ≡ shelf.denials old)
    pub denied : IfErr result (λ fault. fault ≡ Store → shelf.denials new ≡ shelf.denials old + 1)

-- an answer matches a row, or there is neither
abbrev pub Matches : {A X : Type 0} → (A → X → Type 0) → Option A → Option X → Type 0
Matches Is None None = Unit {0}
Matches Is None (Some x) = ⊥
Matches Is (Some row) None = ⊥
Matches Is (Some row) (Some x) = Is row x

pub record IsDeskAnswer (row : Desk) (answer : DeskRow) : Type 0 where
  pub digest : answer.digest ≡ row.digest
  pub next : answer.next ≡ row.next

pub record IsCapacityAnswer (row : Published) (answer : Kind × ℕ) : Type 0 where
  pub kind : answer.0 ≡ row.kind
  pub capacity : answer.1 ≡ row.capacity

abbrev pub published_in : CodeRow → Published
published_in row = record { code = string_bytes row.code; kind = row.kind; capacity = row.capacity }

-- all published codes in ascending order
abbrev pub ListsCodes : List Published → List CodeRow → Type 0
ListsCodes rows answer = map published_in answer ≡ in_order code_before rows

abbrev pub entry_of : Plan → ℕ × PlanKind
entry_of row = (row.n, row.kind)

abbrev pub entry_in : PlanEntry → ℕ × PlanKind
entry_in entry = (entry.n, entry.kind)

-- the numbers and kinds of a desk's plans, by number
abbrev pub ListsPlans : List Plan → List PlanEntry → Type 0
ListsPlans rows answer = map entry_in answer ≡ map entry_of (in_order plan_before rows)

abbrev pub bind_in : BindEntry → ℕ × Text
bind_in entry = (entry.place, string_bytes entry.code)

abbrev pub lag_in : LagEntry → ℕ × ℕ × ℕ
lag_in entry = (entry.from, entry.to, entry.lag)

-- a plan of a desk, with its binds and its lags in ascending order
pub record IsPlanAnswer (v : View) (row : Plan) (answer : PlanRow) : Type 0 where
  pub kind : answer.kind ≡ row.kind
  pub name : string_bytes answer.name ≡ row.name
  pub body : answer.body.items ≡ row.body
  pub start : string_bytes answer.start ≡ row.start
  pub days : string_bytes answer.days ≡ row.days
  pub binds_are : map bind_in answer.binds.items ≡ places_of v row.n
  pub lags_are : map lag_in answer.lags.items ≡ lags_of v row.n
