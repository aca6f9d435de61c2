-- The faults of commands from faults of the system (docs/definitions.md, "Runs").
use Rattle.std.specs.Prelude.{◌≡◌, ◌≢◌, ◌⊎◌, ◌<◌, Some, Result, Ok, Err}
use Rattle.std.specs.Fs.{metadata_len, file_type, IsFile}
use Rattle.std.specs.IoError.{error_kind}
use Rattle.std.specs.declared.fs.attrs.Metadata.{Metadata}
use Rattle.std_io.specs.declared.io.error.Error.{Error}
use Rattle.std_io.specs.declared.io.kind.ErrorKind.{ErrorKind}
use Rattle.std_io.specs.declared.io.kind.ErrorKind.TheVariants as kind
use Rattle.sqlite_std_file.specs.declared.pair.OpenError.{OpenError}
use Rattle.sqlite_std_file.specs.declared.pair.OpenError.TheVariants as opening
use Rattle.sqlite_disk.specs.declared.start.Start as start
use Rattle.sqlite_trees.specs.declared.store.Store.{Ghosts}
use Rattle.plan_store.specs.declared.fault.StoreFault.{StoreFault}
use Rattle.plan_store.specs.declared.fault.StoreFault.TheVariants as store
use Rattle.plan_store.specs.declared.leftover.Leftover.{Leftover}
use Rattle.plan_store.specs.OnDisk.{IsRefusedFrom}
use Rattle.plan_door.specs.declared.fault.ServeFault.{ServeFault}
use Rattle.plan_door.specs.declared.fault.ServeFault.TheVariants as fault

-- the fault of a file of an office: it doesn't exist, the permission is denied, memory ran out, or
-- another cause
abbrev pub IsFileCause : ErrorKind → ServeFault → Type 0
IsFileCause k fault.Missing = (k ≡ kind.NotFound) ⊎ (k ≡ kind.NotADirectory)
IsFileCause k fault.Denied = (k ≡ kind.PermissionDenied) ⊎ (k ≡ kind.ReadOnlyFilesystem)
IsFileCause k fault.Memory = k ≡ kind.OutOfMemory
IsFileCause k fault.Store =
    (k ≢ kind.NotFound) × (k ≢ kind.NotADirectory) × (k ≢ kind.PermissionDenied)
    × (k ≢ kind.ReadOnlyFilesystem) × (k ≢ kind.OutOfMemory)
IsFileCause k e = ⊥

-- The fault of the files of a database: another program has them open, memory ran out, or the
-- system's error. If they can be opened, or have an older journal, the store refused them.
abbrev pub IsOpenCause : {T : Type 0} → Result T OpenError → ServeFault → Type 0
IsOpenCause (Err opening.Busy) e = e ≡ fault.Locked
IsOpenCause (Err opening.OutOfMemory) e = e ≡ fault.Memory
IsOpenCause (Err (opening.Io error)) e = IsFileCause (error_kind error) e
IsOpenCause (Err opening.HotJournal) e = e ≡ fault.Store
IsOpenCause (Ok files) e = e ≡ fault.Store

-- the faults of opening files, and the refusal of their contents by the store
abbrev pub IsFileFault : ServeFault → Type 0
IsFileFault fault.Memory = Unit {0}
IsFileFault fault.Store = Unit {0}
IsFileFault fault.Locked = Unit {0}
IsFileFault fault.Missing = Unit {0}
IsFileFault fault.Denied = Unit {0}
IsFileFault e = ⊥

-- the faults of serving: of the files and their tables, or of the port
abbrev pub IsServeFault : ServeFault → Type 0
IsServeFault fault.NotOurs = Unit {0}
IsServeFault fault.Version = Unit {0}
IsServeFault fault.PortTaken = Unit {0}
IsServeFault fault.PortDenied = Unit {0}
IsServeFault fault.Socket = Unit {0}
IsServeFault e = IsFileFault e

-- the system's answer for a name: a file that is shorter than any database
abbrev pub IsShort : Result Metadata Error → Type 0
IsShort (Ok found) = IsFile (file_type found) × (metadata_len found < 512)
IsShort (Err error) = ⊥

-- the system's answer for a name: something that may be a database
abbrev pub IsThere : Result Metadata Error → Type 0
IsThere (Ok found) = ¬ IsShort (Ok found)
IsThere (Err error) = ⊥

-- the fault for the system's answer
abbrev pub IsLookFault : Result Metadata Error → ServeFault → Type 0
IsLookFault (Ok found) e = (e ≡ fault.NotOurs) × IsShort (Ok found)
IsLookFault (Err error) e = IsFileCause (error_kind error) e

module _ {F S : Type 0} (first : start.Ghosts F) (g : Ghosts S) where
  -- the tables in files were opened, and refused for this cause
  abbrev pub AreRefused : StoreFault → Type 0
  AreRefused cause = (left : Leftover S) × IsRefusedFrom first cause (Some left) g

  -- A fault about tables is about the tables in the files. They aren't those of an office, or the
  -- file is too short for tables, or their version is unknown.
  abbrev pub IsOfTables : Result Metadata Error → ServeFault → Type 0
  IsOfTables looked fault.NotOurs = IsShort looked ⊎ AreRefused store.NotOurs
  IsOfTables looked fault.Version = AreRefused store.Version
  IsOfTables looked e = Unit {0}

  -- the same, whatever the system answered for the name
  abbrev pub IsOfOpenedTables : ServeFault → Type 0
  IsOfOpenedTables e = (looked : Result Metadata Error) → IsOfTables looked e

  -- the same, for some answer of the system for the name
  abbrev pub IsOfTablesAtName : ServeFault → Type 0
  IsOfTablesAtName e = (looked : Result Metadata Error) × IsOfTables looked e

-- the result of a command after the cause was found: the same, or a refusal of the store replaced
-- by its cause
abbrev pub IsToldAnew : Result (Unit {0}) ServeFault → Result (Unit {0}) ServeFault → Type 0
IsToldAnew done told =
    (told ≡ done)
    ⊎ ((done ≡ Err fault.Store)
    × ((e : ServeFault) × (told ≡ Err e) × IsFileFault e))
