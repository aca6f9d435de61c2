-- The output of a command: a text, or the line of an error (docs/definitions.md, "Runs").
use Rattle.std.specs.Prelude.{◌≡◌, ℕ, ◌<◌, List, Option, Result, Ok, Err, length, take}
use Rattle.std.specs.Io.KnownBytes.{Appends}
use Rattle.plan_io.specs.declared.traits.Sink as sinks
use Rattle.plan_io.specs.Devices.{HasFailed}
use Rattle.plan_errors.specs.Faults.{refusal_line}
use Rattle.plan_errors.specs.declared.fault.CliFault.{CliFault}
use Rattle.plan_errors.specs.declared.fault.CliFault.TheVariants as fault

-- The bytes that a sink has taken after a run: the whole text. It has taken nothing if the file or
-- an argument is refused, memory runs out or the input fails. It has taken a shorter front of the
-- text if the output fails.
abbrev pub Writes : (List ℕ → Type 0) → (List ℕ → Type 0) → Option (List ℕ) → Option (List ℕ)
    → Result (Unit {0}) CliFault → Type 0
Writes IsText IsLine taken after (Ok _) = (text : List ℕ) × IsText text × Appends taken after text
Writes IsText IsLine taken after (Err (fault.Refused refusal)) =
    IsLine (refusal_line refusal) × (after ≡ taken)
Writes IsText IsLine taken after (Err fault.Memory) = after ≡ taken
Writes IsText IsLine taken after (Err (fault.Input unread)) = after ≡ taken
Writes IsText IsLine taken after (Err fault.Output) =
    (text : List ℕ) × (n : ℕ) × IsText text × (n < length text) × Appends taken after (take n text)

-- a command refuses a file with such a line, or memory runs out
abbrev pub Refuses : (List ℕ → Type 0) → CliFault → Type 0
Refuses IsLine (fault.Refused refusal) = IsLine (refusal_line refusal)
Refuses IsLine fault.Memory = Unit {0}
Refuses IsLine (fault.Input unread) = ⊥
Refuses IsLine fault.Output = ⊥

-- a sink takes a whole text, or a front of it if the output fails
abbrev pub Sends : List ℕ → Option (List ℕ) → Option (List ℕ) → Result (Unit {0}) CliFault → Type 0
Sends text taken after (Ok _) = Appends taken after text
Sends text taken after (Err fault.Output) =
    (n : ℕ) × (n < length text) × Appends taken after (take n text)
Sends text taken after (Err _) = ⊥

-- a call of a sink failed, or the limit of calls was reached
module _ {W : Type 0} (sink : sinks.Ghosts W) where
  abbrev pub HasSinkFailed : W → W → Type 0
  HasSinkFailed writer after =
      HasFailed (sink.calls writer) (sink.calls after) (sink.faults writer) (sink.faults after)
