-- The state of a connection that serves a book, and the effect of a call on it
-- (docs/definitions.md, "Tables").
use Rattle.std.specs.Prelude.{◌≡◌, ◌⊎◌, ℕ, ◌+◌, [], ◌∷◌, ◌++◌, false, IsTrue, Option, Some, None, IsSomeAnd, Result, IfOk, OnOk, OnErr}
use Rattle.sqlite_trees.specs.Tree.{Trees}
use Rattle.sqlite_trees.specs.declared.store.Store.{Ghosts}
use Rattle.sqlite.specs.Effect.{Database}
use Rattle.sqlite.specs.State.{State, HasCleanDisk}
use Rattle.sqlite.specs.Held.{Held, state}
use Rattle.plan_rows.specs.declared.fault.BookFault.{BookFault}
use Rattle.plan_rows.specs.declared.kinds.PlanKind.{PlanKind}
use Rattle.plan_rows.specs.Changes.{changed, new_plan}
use Rattle.plan_rows.specs.World.{Text, World, is_desk, desk_in}
use Rattle.plan_rows.specs.Rules.{IsWorld}
use Rattle.plan_store.specs.Tables.{store_schema}
use Rattle.plan_store.specs.Endurance.{Endures}
use Rattle.plan_store.specs.Stores.{world_of, IsStore}

-- A store that is open and outside a transaction. Everything is committed.
pub record Stands (s : State) : Type 0 where
  pub is_open : IsTrue s.is_open
  pub outside : s.in_transaction ≡ false
  pub settled : s.now ≡ s.committed
  pub store : IsStore s.now

-- It is outside a transaction, even after an error. As long as it is open, it satisfies `Stands`.
pub record IsReady (s : State) : Type 0 where
  pub outside : s.in_transaction ≡ false
  pub stands : HasCleanDisk s → IsTrue s.is_open → Stands s

-- tables that a crash leaves are those of a store
abbrev pub IsStoreLeft : Trees → Type 0
IsStoreLeft trees = IsStore (record { schema = store_schema; trees = trees })

-- a crash may leave this office, or tables that aren't a store
abbrev pub may_leave : State → Option World → Type 0
may_leave s (Some w) = (trees : Trees) × s.may_leave trees × IsStoreLeft trees × (w ≡ world_of trees)
may_leave s None = (trees : Trees) × s.may_leave trees × ¬ IsStoreLeft trees

module _ (old new : State) where
  -- The tables don't change, and a crash leaves nothing that it couldn't leave before.
  pub record Asks {X : Type 0} (result : Result X BookFault) (Is : X → Type 0) : Type 0 where
    pub ready : IsReady new
    pub honesty : HasCleanDisk new → HasCleanDisk old
    pub same : HasCleanDisk new → IsTrue new.is_open → IsTrue old.is_open × (new.now ≡ old.now)
    pub answer : IfOk result (λ x. HasCleanDisk new → IsTrue new.is_open × Is x)
    pub crash : HasCleanDisk new → (trees : Trees) → new.may_leave trees → old.may_leave trees
    pub endures : Endures old new

  -- The change is made and remains after a crash. Or it isn't made, and a crash may leave it.
  pub record Changes {X : Type 0} (result : Result X BookFault) (change : World → World) : Type 0 where
    pub ready : IsReady new
    pub honesty : HasCleanDisk new → HasCleanDisk old
    pub stood : HasCleanDisk new → IsTrue new.is_open → IsTrue old.is_open
    pub changed : OnOk result (HasCleanDisk new
        → IsTrue new.is_open × (world_of new.now.trees ≡ change (world_of old.now.trees)))
    pub same : OnErr result (HasCleanDisk new → IsTrue new.is_open → new.now ≡ old.now)
    pub durable : OnOk result (HasCleanDisk new
        → (trees : Trees) → new.may_leave trees → trees ≡ new.now.trees)
    pub crash : OnErr result (HasCleanDisk new → (trees : Trees) → new.may_leave trees
        → old.may_leave trees ⊎ (IsTrue old.is_open × IsStoreLeft trees
        × (world_of trees ≡ change (world_of old.now.trees))))
    pub endures : Endures old new

-- The tables after a change keep the rules of rows, if they can be read.
abbrev pub IsKept : State → (World → World) → Type 0
IsKept s change = HasCleanDisk s → IsTrue s.is_open → IsWorld (change (world_of s.now.trees))

-- The desk exists and this is the number of its next plan, if the tables can be read.
abbrev pub IsNextNumber : State → Text → ℕ → Type 0
IsNextNumber s desk n =
    HasCleanDisk s → IsTrue s.is_open
    → IsSomeAnd (desk_in (world_of s.now.trees) desk) (λ row. row.next ≡ n)

-- A plan with this number is added, and the desk's next number is one more.
abbrev pub numbered_plan : Text → ℕ → PlanKind → Text → Text → World → World
numbered_plan desk n kind name body w =
    record w {
      desks = changed (is_desk desk) (λ row. record row { next = n + 1 }) w.desks;
      plans = w.plans ++ new_plan desk n kind name body ∷ [];
    }

-- A crash leaves the tables and nothing else.
abbrev pub IsDurable : State → Type 0
IsDurable s = HasCleanDisk s → (trees : Trees) → s.may_leave trees → trees ≡ s.now.trees

-- the same facts about the connections that functions take
module _ {S : Type 0} (g : Ghosts S) where
  -- the office in the tables of a connection
  abbrev pub office_of : Held S → World
  office_of conn = world_of (state g conn).now.trees

  abbrev pub Serves : Held S → Type 0
  Serves conn = IsReady (state g conn)

  -- the result is read from the tables
  abbrev pub ReadsTables : {X : Type 0} → Held S → Held S → Result X BookFault
      → (Database → X → Type 0) → Type 0
  ReadsTables old new result Is = Asks (state g old) (state g new) result (Is (state g old).now)

  -- the result is read from the office in the tables
  abbrev pub ReadsOffice : {X : Type 0} → Held S → Held S → Result X BookFault
      → (World → X → Type 0) → Type 0
  ReadsOffice old new result Is = Asks (state g old) (state g new) result (Is (office_of old))

  -- the office in the tables is changed
  abbrev pub ChangesOffice : {X : Type 0} → Held S → Held S → Result X BookFault
      → (World → World) → Type 0
  ChangesOffice old new result change = Changes (state g old) (state g new) result change

  -- the changed office keeps the rules of rows
  abbrev pub KeepsRules : Held S → (World → World) → Type 0
  KeepsRules conn = IsKept (state g conn)

  -- the number of the desk's next plan
  abbrev pub HasNextNumber : Held S → Text → ℕ → Type 0
  HasNextNumber conn = IsNextNumber (state g conn)
