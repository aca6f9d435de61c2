-- Serving on a port (docs/definitions.md, "Runs").
use Rattle.std.specs.Prelude.{◌≡◌, ◌≢◌, ◌≤◌, ℕ, List, Result, Ok, Err, length}
use Rattle.std_io.specs.declared.io.kind.ErrorKind.{ErrorKind}
use Rattle.std_io.specs.declared.io.kind.ErrorKind.TheVariants as kind
use Rattle.plan_rows.specs.Books.{Shelf}
use Rattle.plan_door.specs.declared.fault.ServeFault.{ServeFault}
use Rattle.plan_door.specs.declared.fault.ServeFault.TheVariants as fault
use Rattle.plan_door.specs.Turns.{Turn, Runs}

-- the fault of binding a port: another program listens, the permission is denied, memory ran out,
-- or another cause
abbrev pub IsPortCause : ErrorKind → ServeFault → Type 0
IsPortCause k fault.PortTaken = k ≡ kind.AddrInUse
IsPortCause k fault.PortDenied = k ≡ kind.PermissionDenied
IsPortCause k fault.Memory = k ≡ kind.OutOfMemory
IsPortCause k fault.Socket =
    (k ≢ kind.AddrInUse) × (k ≢ kind.PermissionDenied) × (k ≢ kind.OutOfMemory)
IsPortCause k e = ⊥

-- the faults of serving an office on a port
abbrev pub IsPortFault : ServeFault → Type 0
IsPortFault fault.Memory = Unit {0}
IsPortFault fault.PortTaken = Unit {0}
IsPortFault fault.PortDenied = Unit {0}
IsPortFault fault.Socket = Unit {0}
IsPortFault e = ⊥

-- `count` turns were served, one after another, by an office over this book
abbrev pub ServesFrom : {B : Type 0} → Shelf B → B → ℕ → Type 0
ServesFrom {B} shelf book count =
    (after : B) × (turns : List Turn) × (length turns ≡ count) × Runs shelf book after turns

-- An office served `count` turns, one after another. If too many accepts failed, it served at most
-- `count` turns. If it failed for another cause, it served none.
abbrev pub TakesTurns : {B : Type 0} → Shelf B → B → B → ℕ → Result (Unit {0}) ServeFault → Type 0
TakesTurns shelf old new count (Ok _) =
    (turns : List Turn) × (length turns ≡ count) × Runs shelf old new turns
TakesTurns shelf old new count (Err fault.Socket) =
    (turns : List Turn) × (length turns ≤ count) × Runs shelf old new turns
TakesTurns shelf old new count (Err e) = new ≡ old
