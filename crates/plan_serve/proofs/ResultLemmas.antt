-- The result of a command on files, from what it did.
use Rattle.std.proofs.Common.{◌≡◌, inl, inr, ℕ, Option, Some, None, Result, Err, refl}
use Rattle.std.specs.Prelude.{IsTrue, is_some}
use Rattle.std.specs.declared.fs.attrs.Metadata.{Metadata}
use Rattle.std_io.specs.declared.io.error.Error as io
use Rattle.sqlite_disk.specs.declared.Disk as disk
use Rattle.sqlite_disk.specs.declared.start.Start as start
use Rattle.sqlite_store.specs.declared.store.FileStore.{FileStore}
use Rattle.sqlite.specs.Files.{over_files}
use Rattle.plan_rows.specs.World.{Text}
use Rattle.plan_store.specs.SqlBooks.{Counted}
use Rattle.plan_door.specs.declared.fault.ServeFault.{ServeFault}
use Rattle.plan_serve.specs.Causes.{IsThere, IsLookFault, IsToldAnew}
use Rattle.plan_serve.specs.InitRun.{IsOpenedFrom, IsOpenedOnce, IsRefusedOnce}
use Rattle.plan_serve.specs.Returned.{Closed, InitsOnce, WorksOnce}
use Rattle.plan_serve.specs.Results.{IsToldOf, IsUnopened, IsReadFault, InitsAtName, WorksAtName, ReplaysAtName}
use Rattle.plan_serve.proofs.InitLemmas.{more_makes}

-- the result is the same if files were closed
told_of : {C : Type 0} (done told : Result (Unit {0}) ServeFault) (closed : Option C) → IsToldAnew done told
    → (IsTrue (is_some closed) → told ≡ done) → IsToldOf done closed told
told_of done told None anew same = (anew, tt)
told_of done told (Some files) anew same = (anew, same refl)

module _ {F D : Type 0} {g : disk.Ghosts D} (first : start.Ghosts F) where
  -- a new office in files that were opened once
  pub inits_at_name : (old new : ℕ) (Unopened : Type 0) (remaining rest : Option Text) (done told : Result (Unit {0}) ServeFault) (closed : Option (Closed D g))
      → InitsOnce (IsOpenedOnce first over_files old new) (IsRefusedOnce old new) Unopened remaining rest done closed
      → IsToldAnew done told → (IsTrue (is_some closed) → told ≡ done) → InitsAtName first remaining rest told closed
  inits_at_name old new Unopened remaining rest done told closed once anew same = (
    done,
    record {
      back = once.back;
      makes = more_makes over_files (IsOpenedOnce first over_files old new) (IsOpenedFrom first over_files) (IsRefusedOnce old new) IsUnopened Unopened (Unit {0})
          (λ conn opens. opens.1) (λ cause refuses. refuses.1) (λ _. tt) remaining rest done once.back once.makes;
      ends = once.ends;
    },
    told_of done told closed anew same,
  )

  module _ (looked : Result Metadata io.Error) (Does : Result (Unit {0}) ServeFault → Counted (FileStore D g) → Counted (FileStore D g) → Type 0)
      (Lost : Result (Unit {0}) ServeFault → Type 0) where
    -- the work was done
    pub at_name : (done told : Result (Unit {0}) ServeFault) (closed : Option (Closed D g)) → IsThere looked → WorksOnce first (Does done) (Lost done) done closed
        → IsToldAnew done told → (IsTrue (is_some closed) → told ≡ done) → WorksAtName first looked Does Lost told closed
    at_name done told closed there works anew same = inr (there, (done, works, told_of done told closed anew same))

    -- nothing was opened
    pub not_at_name : (e : ServeFault) (closed : Option (Closed D g)) → closed ≡ None → IsLookFault looked e → WorksAtName first looked Does Lost (Err e) closed
    not_at_name e closed none is = inl (none, is)

  -- a file of requests can't be read
  pub unread : (looked : Result Metadata io.Error) (count : ℕ) (taken after : Option Text) (e : ServeFault) (closed : Option (Closed D g)) → closed ≡ None → IsReadFault e
      → ReplaysAtName first looked count taken after (Err e) closed
  unread looked count taken after e closed none is = inl (none, is)
