-- The output of a replay: the responses to connections, one after another (docs/definitions.md,
-- "Runs").
use Rattle.std.specs.Prelude.{◌≡◌, ℕ, ◌<◌, List, Option, length, take, Result, Ok, Err}
use Rattle.std.specs.List.{flat_map}
use Rattle.std.specs.Io.KnownBytes.{Appends}
use Rattle.plan_rows.specs.World.{Text}
use Rattle.plan_rows.specs.Books.{Shelf}
use Rattle.plan_http.specs.Answers.{Decision}
use Rattle.plan_http.specs.Connections.{Serving, Stops, response_of}
use Rattle.plan_door.specs.declared.fault.ServeFault.{ServeFault}
use Rattle.plan_door.specs.declared.fault.ServeFault.TheVariants as fault

-- the greatest number of bytes of a connection: 8,192 of a head and 1,048,576 of a body
abbrev pub longest_request : ℕ
longest_request = 1056768

-- the responses of decisions, one after another
abbrev pub responses : List Decision → Text
responses decisions = flat_map response_of decisions

-- Connections were served, and all their responses were written in order. If the output failed,
-- only the first bytes of the responses were written. If memory ran out during or after the run,
-- nothing was written.
abbrev pub Replays : {B : Type 0} → Shelf B → B → B → List Text → Option Text → Option Text
    → Result (Unit {0}) ServeFault → Type 0
Replays shelf old new conns taken after (Ok _) =
    (decisions : List Decision) × Serving shelf old conns decisions new
    × Appends taken after (responses decisions)
Replays shelf old new conns taken after (Err fault.Memory) =
    (decisions : List Decision) × Stops shelf old new conns decisions × (after ≡ taken)
Replays shelf old new conns taken after (Err fault.Output) =
    (decisions : List Decision) × (n : ℕ) × Serving shelf old conns decisions new
    × (n < length (responses decisions)) × Appends taken after (take n (responses decisions))
Replays shelf old new conns taken after (Err e) = ⊥

-- connections were served by an office over this book, and all their responses were written
abbrev pub ReplaysFrom : {B : Type 0} → Shelf B → B → List Text → Option Text → Option Text → Type 0
ReplaysFrom {B} shelf book conns taken after =
    (next : B) × Replays shelf book next conns taken after (Ok tt)

-- `count` responses were written, one after another
abbrev pub AreAnswered : ℕ → Option Text → Option Text → Type 0
AreAnswered count taken after =
    (decisions : List Decision) × (length decisions ≡ count)
    × Appends taken after (responses decisions)

-- the first part of them was written
abbrev pub AreAnsweredInPart : ℕ → Option Text → Option Text → Type 0
AreAnsweredInPart count taken after =
    (decisions : List Decision) × (n : ℕ) × (length decisions ≡ count)
    × (n < length (responses decisions))
    × Appends taken after (take n (responses decisions))
