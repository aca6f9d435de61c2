-- The creation of the tables of a store (docs/definitions.md, "Tables").
use Rattle.std.specs.Prelude.{◌≡◌, ◌≢◌, false, IsTrue, Result, OnOk, OnErr, IfErr}
use Rattle.sqlite_trees.specs.Tree.{Trees}
use Rattle.sqlite.specs.State.{State, HasCleanDisk, Survives}
use Rattle.plan_store.specs.declared.fault.StoreFault.{StoreFault}
use Rattle.plan_store.specs.declared.fault.StoreFault.TheVariants.{NotOurs, Version}
use Rattle.plan_rows.specs.World.{Digest, empty_world}
use Rattle.plan_store.specs.Stores.{world_of}
use Rattle.plan_store.specs.BookCalls.{Stands, IsStoreLeft}

-- trees that hold an office with no rows
abbrev pub IsNewStore : Digest → Trees → Type 0
IsNewStore digest trees = IsStoreLeft trees × (world_of trees ≡ empty_world digest)

-- All tables are created and remain after a crash. Or none is, and a crash may leave all of them.
pub record Creates (old new : State) {X : Type 0} (result : Result X StoreFault) (digest : Digest) : Type 0 where
  pub outside : new.in_transaction ≡ false
  pub made : OnOk result (HasCleanDisk new → Stands new × (world_of new.now.trees ≡ empty_world digest))
  pub durable : OnOk result (HasCleanDisk new
      → (trees : Trees) → new.may_leave trees → trees ≡ new.now.trees)
  pub kept : OnErr result (HasCleanDisk new → IsTrue new.is_open
      → IsTrue old.is_open × (new.now ≡ old.now) × (new.committed ≡ old.committed))
  pub crash : Survives old new (IsNewStore digest)
  pub which : IfErr result (λ fault. (fault ≢ NotOurs) × (fault ≢ Version))

-- a book without rows
abbrev pub IsNewBook : Digest → State → Type 0
IsNewBook digest s =
    HasCleanDisk s → Stands s × (world_of s.now.trees ≡ empty_world digest)

-- as long as it is open, the tables are as they were
abbrev pub IsAsBefore : State → State → Type 0
IsAsBefore old new =
    HasCleanDisk new → IsTrue new.is_open
    → (new.now ≡ old.now) × (new.committed ≡ old.committed)
