-- Connections of an office over a book: the responses, and the faults of a port.
use Rattle.std.proofs.Common.{◌≡◌, ◌⊎◌, ◌≤◌, ℕ, List, [], Option, Result, Ok, Err, inl, inr, length, refl, sym, ap, subst, arith}
use Rattle.std.specs.Prelude.{OnOk, IfErr, IsErrOf}
use Rattle.std_io.specs.declared.io.kind.ErrorKind.{ErrorKind}
use Rattle.plan_rows.specs.World.{Text}
use Rattle.plan_rows.specs.Books.{Shelf}
use Rattle.plan_door.specs.declared.fault.ServeFault.{ServeFault}
use Rattle.plan_door.specs.declared.fault.ServeFault.TheVariants as fault
use Rattle.plan_door.specs.Ports.{IsPortCause, IsPortFault, TakesTurns}
use Rattle.plan_door.specs.Turns.{Turn, misses_in, Runs}
use Rattle.plan_door.specs.declared.socket.TheConstants.{MOST_FAILURES}
use Rattle.plan_door.proofs.TurnLemmas.{no_turns}
use Rattle.plan_door.specs.ReplayRun.{Replays, ReplaysFrom}

-- a complete output has the responses of an office over the book
pub replays : {B : Type 0} (shelf : Shelf B) (old new : B) (conns : List Text) (taken after : Option Text) (r : Result (Unit {0}) ServeFault)
    → Replays shelf old new conns taken after r → OnOk r (ReplaysFrom shelf old conns taken after)
replays shelf old new conns taken after (Ok done) served = (new, served)
replays shelf old new conns taken after (Err e) served = tt

-- if the output isn't complete, memory ran out or the output failed
pub replays_not : {B : Type 0} (shelf : Shelf B) (old new : B) (conns : List Text) (taken after : Option Text) (r : Result (Unit {0}) ServeFault)
    → Replays shelf old new conns taken after r → IfErr r (λ e. (e ≡ fault.Memory) ⊎ (e ≡ fault.Output))
replays_not shelf old new conns taken after (Ok done) served = tt
replays_not shelf old new conns taken after (Err fault.Memory) served = inl refl
replays_not shelf old new conns taken after (Err fault.Store) served = absurd served
replays_not shelf old new conns taken after (Err fault.NotOurs) served = absurd served
replays_not shelf old new conns taken after (Err fault.Version) served = absurd served
replays_not shelf old new conns taken after (Err fault.Key) served = absurd served
replays_not shelf old new conns taken after (Err fault.Input) served = absurd served
replays_not shelf old new conns taken after (Err fault.Socket) served = absurd served
replays_not shelf old new conns taken after (Err fault.Output) served = inr refl
replays_not shelf old new conns taken after (Err fault.Locked) served = absurd served
replays_not shelf old new conns taken after (Err fault.Missing) served = absurd served
replays_not shelf old new conns taken after (Err fault.Denied) served = absurd served
replays_not shelf old new conns taken after (Err fault.Taken) served = absurd served
replays_not shelf old new conns taken after (Err fault.PortTaken) served = absurd served
replays_not shelf old new conns taken after (Err fault.PortDenied) served = absurd served

-- a fault of binding a port is a fault of serving an office
pub port_faults : (k : ErrorKind) (f : ServeFault) → IsPortCause k f → IsPortFault f
port_faults k fault.Memory is = tt
port_faults k fault.Store is = absurd is
port_faults k fault.NotOurs is = absurd is
port_faults k fault.Version is = absurd is
port_faults k fault.Key is = absurd is
port_faults k fault.Input is = absurd is
port_faults k fault.Socket is = tt
port_faults k fault.Output is = absurd is
port_faults k fault.Locked is = absurd is
port_faults k fault.Missing is = absurd is
port_faults k fault.Denied is = absurd is
port_faults k fault.Taken is = absurd is
port_faults k fault.PortTaken is = tt
port_faults k fault.PortDenied is = tt

-- no turn was served if the port can't be bound
pub port_turns : {B : Type 0} (shelf : Shelf B) (old : B) (count : ℕ) (k : ErrorKind) (f : ServeFault)
    → IsPortCause k f → TakesTurns shelf old old count (Err f)
port_turns shelf old count k fault.Memory is = refl
port_turns shelf old count k fault.Store is = absurd is
port_turns shelf old count k fault.NotOurs is = absurd is
port_turns shelf old count k fault.Version is = absurd is
port_turns shelf old count k fault.Key is = absurd is
port_turns shelf old count k fault.Input is = absurd is
port_turns shelf old count k fault.Socket is = ([], omega arith, no_turns shelf old)
port_turns shelf old count k fault.Output is = absurd is
port_turns shelf old count k fault.Locked is = absurd is
port_turns shelf old count k fault.Missing is = absurd is
port_turns shelf old count k fault.Denied is = absurd is
port_turns shelf old count k fault.Taken is = absurd is
port_turns shelf old count k fault.PortTaken is = refl
port_turns shelf old count k fault.PortDenied is = refl

-- the turns of a listener
pub listener_turns : {B : Type 0} (shelf : Shelf B) (old new : B) (count : ℕ) (r : Result (Unit {0}) ServeFault)
    → OnOk r ((turns : List Turn) × (length turns ≡ count) × Runs shelf old new turns)
    → (IsErrOf r fault.Memory → new ≡ old)
    → (IsErrOf r fault.Socket → (turns : List Turn) × (length turns ≤ count) × (MOST_FAILURES ≤ misses_in turns) × Runs shelf old new turns)
    → IfErr r (λ e. (e ≡ fault.Memory) ⊎ (e ≡ fault.Socket)) → TakesTurns shelf old new count r
listener_turns shelf old new count (Ok done) ok memory closed which = ok
listener_turns shelf old new count (Err e) ok memory closed (inl same) =
    subst (λ f. TakesTurns shelf old new count (Err f)) (sym same) (memory (ap Err same))
listener_turns shelf old new count (Err e) ok memory closed (inr same) =
    let c = closed (ap Err same) in
    subst (λ f. TakesTurns shelf old new count (Err f)) (sym same) (c.0, c.1, c.3)
