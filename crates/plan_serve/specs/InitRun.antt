-- The creation of the tables of a new office (docs/definitions.md, "Runs").
use Rattle.std.specs.Prelude.{◌≡◌, ◌≢◌, ◌⊎◌, ℕ, ◌+◌, false, IsTrue, Option, Some, None, Result, Ok, Err}
use Rattle.sqlite_disk.specs.declared.start.Start as start
use Rattle.sqlite_wal.specs.Files.{image_at}
use Rattle.sqlite_trees.specs.Tree.{Trees}
use Rattle.sqlite_trees.specs.declared.store.Store.{Ghosts}
use Rattle.sqlite.specs.Effect.{Database}
use Rattle.sqlite.specs.State.{State, HasCleanDisk, Survives}
use Rattle.sqlite.specs.Start.{FindsIn}
use Rattle.sqlite.specs.Held.{Held, state, IsNew}
use Rattle.plan_rows.specs.World.{Text, Digest, empty_world}
use Rattle.plan_store.specs.declared.fault.StoreFault.{StoreFault}
use Rattle.plan_store.specs.declared.fault.StoreFault.TheVariants as store
use Rattle.plan_store.specs.Tables.{no_schema}
use Rattle.plan_store.specs.Offices.{HasOfficeTables}
use Rattle.plan_store.specs.Stores.{world_of}
use Rattle.plan_store.specs.BookCalls.{Stands}
use Rattle.plan_store.specs.SqlBooks.{Counted}
use Rattle.plan_store.specs.Creation.{IsNewStore}
use Rattle.plan_door.specs.declared.fault.ServeFault.{ServeFault}
use Rattle.plan_door.specs.declared.fault.ServeFault.TheVariants as fault
use Rattle.plan_serve.specs.Faults.{fault_of}
use Rattle.plan_serve.specs.Causes.{IsFileFault}
use Rattle.plan_door.specs.Keys.{ReadsKey, IsDigestOfKey}

-- the tables are those of an office without rows, and a crash leaves nothing else
pub record IsNewOffice (s : State) (digest : Digest) : Type 0 where
  pub stands : HasCleanDisk s → Stands s
  pub world : HasCleanDisk s → world_of s.now.trees ≡ empty_world digest
  pub durable : HasCleanDisk s → (trees : Trees) → s.may_leave trees → trees ≡ s.now.trees

-- no tables were created: the contents stay, and a crash may leave the new tables complete
pub record IsLeft (old new : State) (digest : Digest) : Type 0 where
  pub outside : new.in_transaction ≡ false
  pub kept : HasCleanDisk new → IsTrue new.is_open
      → (new.now ≡ old.now) × (new.committed ≡ old.committed)
  pub crash : Survives old new (IsNewStore digest)

-- the fault of a command from a fault of the store, if this database was returned
abbrev pub IsTold : StoreFault → Database → ServeFault → Type 0
IsTold cause db told =
    ((told ≡ fault.Taken) × (cause ≡ store.NotOurs) × HasOfficeTables db.schema)
    ⊎ ((told ≡ fault_of cause) × (cause ≡ store.NotOurs → ¬ HasOfficeTables db.schema))

-- a new connection with the contents of the files
abbrev pub IsOpenedFrom : {F S : Type 0} → start.Ghosts F → Ghosts S → Held S → Type 0
IsOpenedFrom first g conn =
    IsNew conn × (HasCleanDisk (state g conn) → FindsIn (image_at first) (state g conn))

-- the files were opened once more: their connection is new, or memory ran out, or they can't be
-- opened
abbrev pub IsOpenedOnce : {F S : Type 0} → start.Ghosts F → Ghosts S → ℕ → ℕ → Held S → Type 0
IsOpenedOnce first g old new conn = (new ≡ old + 1) × IsOpenedFrom first g conn

abbrev pub IsRefusedOnce : ℕ → ℕ → StoreFault → Type 0
IsRefusedOnce old new cause = (new ≡ old + 1) × ((cause ≡ store.NoMemory) ⊎ (cause ≡ store.Store))

module _ {S : Type 0} (g : Ghosts S) (Opens : Held S → Type 0) where
  -- a database was opened that has no table
  abbrev pub IsEmptyThere : Type 0
  IsEmptyThere = (conn : Held S) × Opens conn × ((state g conn).now.schema ≡ no_schema)

  -- a database was opened that has the tables of an office, and its connection is returned
  -- unchanged
  abbrev pub IsOfficeThere : Option (Held S) → Type 0
  IsOfficeThere back =
      (conn : Held S) × (back ≡ Some conn) × Opens conn × HasOfficeTables (state g conn).now.schema

  -- a database was opened that has other tables, and its connection is returned unchanged
  abbrev pub IsUsedThere : Option (Held S) → Type 0
  IsUsedThere back =
      (conn : Held S) × (back ≡ Some conn) × Opens conn × ((state g conn).now.schema ≢ no_schema)
      × ¬ HasOfficeTables (state g conn).now.schema

  -- a fault about existing tables is about those of a database that was opened
  abbrev pub IsToldThere : ServeFault → Type 0
  IsToldThere fault.Taken = (back : Option (Held S)) × IsOfficeThere back
  IsToldThere fault.NotOurs = (back : Option (Held S)) × IsUsedThere back
  IsToldThere e = Unit {0}

  -- a database without tables was opened, and now has those of a new office, with the digest of
  -- some key
  abbrev pub HasMade : Type 0
  HasMade =
      (digest : Digest) × IsDigestOfKey digest × IsEmptyThere
      × ((after : Held S) × IsNewOffice (state g after) digest)

  -- the same, with the digest of the key that was read, in the database of this connection
  abbrev pub HasMadeIn : Option Text → Option Text → Option (Held S) → Type 0
  HasMadeIn remaining rest None = ⊥
  HasMadeIn remaining rest (Some after) =
      (digest : Digest) × ReadsKey remaining rest (Ok digest) × IsEmptyThere
      × IsNewOffice (state g after) digest

-- the same for a database in files
abbrev pub InitsOnFiles : {F S : Type 0} → start.Ghosts F → Ghosts S → Type 0
InitsOnFiles first g = HasMade g (IsOpenedFrom first g)

-- a fault about existing tables is about those in files
abbrev pub IsOfTablesThere : {F S : Type 0} → start.Ghosts F → Ghosts S → ServeFault → Type 0
IsOfTablesThere first g e = IsToldThere g (IsOpenedFrom first g) e

module _ {S : Type 0} (g : Ghosts S) (Opens : Held S → Type 0) (Refuses : StoreFault → Type 0)
    (Unopened : Type 0) where
  -- a database without tables was opened, and is unchanged
  abbrev pub IsLeftThere : Option (Held S) → Digest → Type 0
  IsLeftThere back digest =
      (conn left : Held S) × (back ≡ Some left) × Opens conn
      × ¬ ((state g conn).now.schema ≢ no_schema)
      × IsLeft (state g conn) (state g left) digest

  -- a key was read, and the database can't be opened for this cause
  abbrev pub IsRefused : Option Text → Option Text → StoreFault → Type 0
  IsRefused remaining rest cause =
      (digest : Digest) × ReadsKey remaining rest (Ok digest) × Refuses cause

  -- The fault of creating an office, and the connection that is returned, if one was opened.
  -- Without a key no database is opened. With a key the database can't be opened, has the tables of
  -- an office or others, or refuses.
  abbrev pub MakesNone : Option Text → Option Text → ServeFault → Option (Held S) → Type 0
  MakesNone remaining rest fault.Key back =
      ReadsKey remaining rest (Err fault.Key) × (back ≡ None) × Unopened
  MakesNone remaining rest fault.Store back =
      (digest : Digest) × ReadsKey remaining rest (Ok digest)
      × ((Refuses store.Store × (back ≡ None)) ⊎ IsLeftThere back digest)
  MakesNone remaining rest fault.NotOurs back =
      (digest : Digest) × ReadsKey remaining rest (Ok digest) × IsUsedThere g Opens back
  MakesNone remaining rest fault.Taken back =
      (digest : Digest) × ReadsKey remaining rest (Ok digest) × IsOfficeThere g Opens back
  MakesNone remaining rest fault.Memory back =
      ((back ≡ None) × (Unopened ⊎ IsRefused remaining rest store.NoMemory))
      ⊎ ((digest : Digest) × ReadsKey remaining rest (Ok digest) × IsLeftThere back digest)
  MakesNone remaining rest fault.Input back = (back ≡ None) × Unopened
  MakesNone remaining rest e back = ⊥

  -- the result of creating an office, and the connection that is returned
  abbrev pub MakesOffice : Option Text → Option Text → Result (Unit {0}) ServeFault
      → Option (Held S) → Type 0
  MakesOffice remaining rest (Ok _) back = HasMadeIn g Opens remaining rest back
  MakesOffice remaining rest (Err e) back = MakesNone remaining rest e back

  -- the tables of a new office are created, with the digest of the key that was read, or not
  abbrev pub Inits : Option Text → Option Text → Result (Counted S) (ServeFault × Option (Held S))
      → Type 0
  Inits remaining rest (Ok book) =
      (digest : Digest) × ReadsKey remaining rest (Ok digest) × IsEmptyThere g Opens
      × IsNewOffice (state g book.conn) digest
  Inits remaining rest (Err e) = MakesNone remaining rest e.0 e.1

-- the faults of creating the tables of a new office
abbrev pub IsInitFault : ServeFault → Type 0
IsInitFault fault.Key = Unit {0}
IsInitFault fault.NotOurs = Unit {0}
IsInitFault fault.Taken = Unit {0}
IsInitFault fault.Input = Unit {0}
IsInitFault e = IsFileFault e
