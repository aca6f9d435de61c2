-- The adoption of the tables of a connection, and its failure (docs/definitions.md, "Tables").
use Rattle.std.specs.Prelude.{◌≡◌, ◌≢◌, ◌⊎◌, ℤ, pos, false, IsTrue, Result, OnOk, OnErr, IfErr}
use Rattle.sqlite_trees.specs.Tree.{Trees}
use Rattle.sqlite_trees.specs.View.{IsClean}
use Rattle.sqlite_trees.specs.declared.store.Store.{Ghosts}
use Rattle.sqlite.specs.Effect.{Database}
use Rattle.sqlite.specs.State.{State, HasCleanDisk}
use Rattle.sqlite.specs.Held.{state}
use Rattle.plan_store.specs.declared.fault.StoreFault.{StoreFault}
use Rattle.plan_store.specs.declared.fault.StoreFault.TheVariants.{NotOurs, Version}
use Rattle.plan_store.specs.declared.layout.Layout.{Layout}
use Rattle.plan_store.specs.declared.layout.Layout.TheVariants.{First, Second}
use Rattle.plan_store.specs.declared.leftover.Leftover.{Leftover}
use Rattle.plan_store.specs.declared.leftover.Leftover.TheVariants as left
use Rattle.plan_store.specs.Stores.{world_of}
use Rattle.plan_store.specs.Layouts.{world_in, IsOfficeAt}
use Rattle.plan_store.specs.BookCalls.{Stands, IsStoreLeft}

-- the version that tables of a layout have, and that of the other layout
abbrev pub version_of : Layout → ℤ
version_of First = pos 1
version_of Second = pos 2

abbrev pub other_version : Layout → ℤ
other_version First = pos 2
other_version Second = pos 1

-- the tables hold an office and have the version of their layout
abbrev pub IsOffice : Database → Type 0
IsOffice db = (layout : Layout) × IsOfficeAt layout (version_of layout) db

-- the tables hold an office and have an unknown version
abbrev pub IsOfUnknownVersion : Database → Type 0
IsOfUnknownVersion db =
    (layout : Layout) × (version : ℤ) × IsOfficeAt layout version db
    × (version ≢ version_of layout) × (version ≢ other_version layout)

-- Tables of the second version are adopted as they are. Those of the first are migrated to the
-- second, with the same rows and no lags.
abbrev pub IsTaken : Database → Database → Type 0
IsTaken old new =
    (IsOfficeAt Second (pos 2) old × (new ≡ old))
    ⊎ (IsOfficeAt First (pos 1) old × (world_of new.trees ≡ world_in First old.trees))

-- trees that a migration makes of tables of the first version
abbrev pub IsMigrated : Database → Trees → Type 0
IsMigrated old trees =
    IsOfficeAt First (pos 1) old × IsStoreLeft trees × (world_of trees ≡ world_in First old.trees)

-- the reason for a failed adoption
abbrev pub IsCause : StoreFault → Database → Type 0
IsCause NotOurs db = ¬ IsOffice db × ¬ IsOfUnknownVersion db
IsCause Version db = IsOfUnknownVersion db
IsCause _ db = Unit {0}

-- the connection is open if its tables hold no office or have an unknown version
abbrev pub IsOpenAfter : StoreFault → State → Type 0
IsOpenAfter NotOurs s = HasCleanDisk s → IsTrue s.is_open
IsOpenAfter Version s = HasCleanDisk s → IsTrue s.is_open
IsOpenAfter _ s = Unit {0}

-- The tables are adopted, and a crash leaves them and nothing else. Or they don't change, and a
-- crash may leave anything that it could leave before, or migrated tables if memory or the store
-- failed.
pub record Takes (old new : State) {X : Type 0} (result : Result X StoreFault) : Type 0 where
  pub outside : new.in_transaction ≡ false
  pub honesty : HasCleanDisk new → HasCleanDisk old
  pub taken : OnOk result (HasCleanDisk new → Stands new × IsTaken old.now new.now)
  pub durable : OnOk result (HasCleanDisk new
      → (trees : Trees) → new.may_leave trees → trees ≡ new.now.trees)
  pub cause : IfErr result (λ fault. HasCleanDisk new → IsCause fault old.now)
  pub kept : OnErr result (HasCleanDisk new → IsTrue new.is_open → new.now ≡ old.now)
  pub crash : IfErr result (λ fault. HasCleanDisk new → (trees : Trees) → new.may_leave trees
      → old.may_leave trees ⊎ ((fault ≢ NotOurs) × (fault ≢ Version) × IsMigrated old.now trees))
  pub is_open : IfErr result (λ fault. IsOpenAfter fault new)

-- ---- the connection or store of a failed adoption

-- if the tables hold no office or have an unknown version, the connection is returned
abbrev pub IsWhole : {S : Type 0} → StoreFault → Leftover S → Type 0
IsWhole NotOurs (left.Store store) = ⊥
IsWhole Version (left.Store store) = ⊥
IsWhole _ _ = Unit {0}

module _ {S : Type 0} (g : Ghosts S) where
  -- the disk has returned what was written
  abbrev pub IsHonest : Leftover S → Type 0
  IsHonest (left.Connection conn) = HasCleanDisk (state g conn)
  IsHonest (left.Store store) = IsClean (g.view store)

  -- It is outside a transaction, and if it is open, it has the same tables as before.
  abbrev pub HasTables : Leftover S → Database → Type 0
  HasTables (left.Connection conn) db =
      ((state g conn).in_transaction ≡ false)
      × (HasCleanDisk (state g conn) → IsTrue (state g conn).is_open → (state g conn).now ≡ db)
  HasTables (left.Store store) db =
      IsClean (g.view store) → IsTrue (g.view store).is_open → (g.view store).trees ≡ db.trees

  -- a returned connection is open unless memory or the store failed
  abbrev pub IsOpenLeft : StoreFault → Leftover S → Type 0
  IsOpenLeft fault (left.Connection conn) = IsOpenAfter fault (state g conn)
  IsOpenLeft fault (left.Store store) = Unit {0}

  -- a crash may leave these trees
  abbrev pub may_be_left : Leftover S → Trees → Type 0
  may_be_left (left.Connection conn) = (state g conn).may_leave
  may_be_left (left.Store store) = g.recovers store

  -- The adoption failed: the reason, the returned connection or store, and a crash.
  pub record IsRefused (old : State) (fault : StoreFault) (leftover : Leftover S) : Type 0 where
    pub honesty : IsHonest leftover → HasCleanDisk old
    pub cause : IsHonest leftover → IsCause fault old.now
    pub whole : IsWhole fault leftover
    pub is_open : IsOpenLeft fault leftover
    pub kept : HasTables leftover old.now
    pub crash : IsHonest leftover → (trees : Trees) → may_be_left leftover trees
        → old.may_leave trees ⊎ ((fault ≢ NotOurs) × (fault ≢ Version) × IsMigrated old.now trees)
