-- The connection that a command returns, and its closing (docs/definitions.md, "Runs").
use Rattle.std.specs.Prelude.{◌≡◌, Option, Some, None, Result, Ok, Err, IfOk, IfNone, MatchResult}
use Rattle.sqlite_disk.specs.declared.Disk as disk
use Rattle.sqlite_disk.specs.declared.Files.{Files}
use Rattle.sqlite_disk.specs.declared.start.Start as start
use Rattle.sqlite_wal.specs.Reads.{AreClean}
use Rattle.sqlite_store.specs.declared.store.FileStore.{FileStore}
use Rattle.sqlite.specs.declared.error.Error.{Error}
use Rattle.sqlite.specs.Held.{Held}
use Rattle.sqlite.specs.Files.{IsClosed, over_files}
use Rattle.sqlite.specs.Closing.{IsCopied}
use Rattle.plan_rows.specs.World.{Text}
use Rattle.plan_store.specs.declared.fault.StoreFault.{StoreFault}
use Rattle.plan_store.specs.declared.leftover.Leftover.{Leftover}
use Rattle.plan_store.specs.SqlBooks.{Counted}
use Rattle.plan_store.specs.OnDisk.{IsTakenFrom, IsRefusedFrom}
use Rattle.plan_door.specs.declared.fault.ServeFault.{ServeFault}
use Rattle.plan_serve.specs.Faults.{fault_of}
use Rattle.plan_serve.specs.InitRun.{MakesOffice}

-- if a connection is returned, it is that of a book with this fact
abbrev pub IsConnOf : {S : Type 0} → (Counted S → Type 0) → Option (Held S) → Type 0
IsConnOf Is None = Unit {0}
IsConnOf {S} Is (Some conn) = (book : Counted S) × (book.conn ≡ conn) × Is book

-- the closed files, or the error and the store if its log can't be copied into the database
abbrev pub Closed : (D : Type 0) → disk.Ghosts D → Type 0
Closed D g = Result (Files D) (Error × FileStore D g)

module _ {D : Type 0} {g : disk.Ghosts D} where
  -- The database file holds the last commit of the connection, with the log and without it. If the
  -- log can't be copied, a crash leaves nothing new.
  abbrev pub IsShut : Held (FileStore D g) → Closed D g → Type 0
  IsShut conn (Ok files) = AreClean g files.log files.db → IsCopied conn files
  IsShut conn (Err e) = IsClosed conn e.1

  -- the returned connection was closed, if there was one
  abbrev pub IsEnded : Option (Held (FileStore D g)) → Option (Closed D g) → Type 0
  IsEnded None closed = closed ≡ None
  IsEnded (Some conn) None = ⊥
  IsEnded (Some conn) (Some closed) = IsShut conn closed

  -- The tables of an office were created, or not, in a database that was opened at most once. Its
  -- connection was closed.
  pub record InitsOnce (Opens : Held (FileStore D g) → Type 0) (Refuses : StoreFault → Type 0)
      (Unopened : Type 0) (remaining rest : Option Text) (result : Result (Unit {0}) ServeFault)
      (closed : Option (Closed D g)) : Type 0 where
    pub back : Option (Held (FileStore D g))
    pub makes : MakesOffice over_files Opens Refuses Unopened remaining rest result back
    pub ends : IsEnded back closed

  -- The tables in files were opened, an office over them made a step, and its connection was
  -- closed. In one case the connection is lost. If the tables can't be opened, there is no step.
  pub record WorksOnce {F : Type 0} (first : start.Ghosts F)
      (Does : Counted (FileStore D g) → Counted (FileStore D g) → Type 0) (Lost : Type 0)
      (result : Result (Unit {0}) ServeFault) (closed : Option (Closed D g)) : Type 0 where
    pub opened : Result (Counted (FileStore D g)) (StoreFault × Option (Leftover (FileStore D g)))
    pub back : Option (Held (FileStore D g))
    pub taken : MatchResult opened (λ book. IsTakenFrom first book.conn over_files)
        (λ e. IsRefusedFrom first e.0 e.1 over_files)
    pub does : MatchResult opened (λ book. IsConnOf (Does book) back)
        (λ e. (back ≡ None) × (result ≡ Err (fault_of e.0)))
    pub kept : IfOk opened (λ _. IfNone back Lost)
    pub ends : IsEnded back closed
