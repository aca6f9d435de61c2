-- The result of each command on files, and the files that it closes (docs/definitions.md, "Runs").
use Rattle.std.specs.Prelude.{◌≡◌, ◌⊎◌, ℕ, List, Option, None, Result, length, IfSome, IsErrOf, MatchResult}
use Rattle.std.specs.declared.fs.attrs.Metadata.{Metadata}
use Rattle.std_io.specs.declared.io.error.Error as io
use Rattle.sqlite_disk.specs.declared.Disk as disk
use Rattle.sqlite_disk.specs.declared.start.Start as start
use Rattle.sqlite_store.specs.declared.store.FileStore.{FileStore}
use Rattle.sqlite.specs.Files.{over_files}
use Rattle.plan_rows.specs.World.{Text}
use Rattle.plan_desk.specs.BookSteps.{Quiet}
use Rattle.plan_store.specs.declared.fault.StoreFault.{StoreFault}
use Rattle.plan_store.specs.declared.fault.StoreFault.TheVariants as store
use Rattle.plan_store.specs.SqlBooks.{Counted, sql_shelf}
use Rattle.plan_door.specs.declared.fault.ServeFault.{ServeFault}
use Rattle.plan_door.specs.declared.fault.ServeFault.TheVariants as fault
use Rattle.plan_door.specs.ReplayRun.{Replays}
use Rattle.plan_door.specs.Ports.{TakesTurns}
use Rattle.plan_serve.specs.declared.commands.Report.{Report}
use Rattle.plan_serve.specs.Causes.{IsThere, IsLookFault, IsToldAnew}
use Rattle.plan_serve.specs.CheckRun.{Writes}
use Rattle.plan_serve.specs.InitRun.{IsOpenedFrom}
use Rattle.plan_serve.specs.Reports.{ReportsTo, KeepsNone}
use Rattle.plan_serve.specs.Returned.{Closed, InitsOnce, WorksOnce}

-- The result that is reported if a command ended with `done`: `done` itself, or the cause for which
-- the store refused the files. If files were closed, it is `done`.
abbrev pub IsToldOf : {C : Type 0} → Result (Unit {0}) ServeFault → Option C
    → Result (Unit {0}) ServeFault → Type 0
IsToldOf done closed told = IsToldAnew done told × IfSome closed (λ _. told ≡ done)

-- the files can't be opened: memory ran out, or another cause
abbrev pub IsUnopened : StoreFault → Type 0
IsUnopened cause = (cause ≡ store.NoMemory) ⊎ (cause ≡ store.Store)

-- a file of requests can't be read: memory ran out, or another cause
abbrev pub IsReadFault : ServeFault → Type 0
IsReadFault e = (e ≡ fault.Memory) ⊎ (e ≡ fault.Input)

module _ {F D : Type 0} {g : disk.Ghosts D} (first : start.Ghosts F) where
  -- The tables of an office were created, or not, in the files, by the key of a text. The
  -- connection was closed.
  abbrev pub InitsAtName : Option Text → Option Text → Result (Unit {0}) ServeFault
      → Option (Closed D g) → Type 0
  InitsAtName remaining rest told closed =
      (done : Result (Unit {0}) ServeFault)
      × InitsOnce (IsOpenedFrom first over_files) IsUnopened (Unit {0}) remaining rest done closed
      × IsToldOf done closed told

  module _ (looked : Result Metadata io.Error) where
    -- If the system's answer excludes an office, nothing was opened, and the result is the fault
    -- for the answer. Otherwise the tables in the files were opened, an office over them did this
    -- work, and its connection was closed.
    abbrev pub WorksAtName : (Result (Unit {0}) ServeFault → Counted (FileStore D g)
        → Counted (FileStore D g) → Type 0) → (Result (Unit {0}) ServeFault → Type 0)
        → Result (Unit {0}) ServeFault → Option (Closed D g) → Type 0
    WorksAtName Does Lost told closed =
        ((closed ≡ None) × MatchResult told (λ _. ⊥) (IsLookFault looked))
        ⊎ (IsThere looked × ((done : Result (Unit {0}) ServeFault)
        × WorksOnce first (Does done) (Lost done) done closed × IsToldOf done closed told))

    -- the report of the office was written or not
    abbrev pub ReportsAtName : Report → Option Text → Option Text → Result (Unit {0}) ServeFault
        → Option (Closed D g) → Type 0
    ReportsAtName report taken after told closed =
        WorksAtName
        (λ done old new. ReportsTo (sql_shelf over_files) old new report taken after done)
        (KeepsNone report) told closed

    -- the rows were summarized, and the summary was written or not
    abbrev pub ChecksAtName : Option Text → Option Text → Result (Unit {0}) ServeFault
        → Option (Closed D g) → Type 0
    ChecksAtName taken after told closed =
        WorksAtName
        (λ done old new. Quiet (sql_shelf over_files) old new
        × Writes (sql_shelf over_files) old new taken after done) (λ _. ⊥) told closed

    -- A file of requests can't be read, or memory ran out, and nothing was opened. Or `count`
    -- connections were served, and the responses were written or not.
    abbrev pub ReplaysAtName : ℕ → Option Text → Option Text → Result (Unit {0}) ServeFault
        → Option (Closed D g) → Type 0
    ReplaysAtName count taken after told closed =
        ((closed ≡ None) × MatchResult told (λ _. ⊥) IsReadFault)
        ⊎ ((conns : List Text) × (length conns ≡ count)
        × WorksAtName
        (λ done old new. Replays (sql_shelf over_files) old new conns taken after done)
        (λ done. IsErrOf done fault.Memory) told closed)

    -- `count` turns were served, or less if an error ended them
    abbrev pub ServesAtName : ℕ → Result (Unit {0}) ServeFault → Option (Closed D g) → Type 0
    ServesAtName count told closed =
        WorksAtName (λ done old new. TakesTurns (sql_shelf over_files) old new count done)
        (λ done. IsErrOf done fault.Memory) told closed
