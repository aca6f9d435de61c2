-- Connections served by an office: one, and runs of many (docs/definitions.md, "Connections").
use Rattle.std.specs.Prelude.{◌≡◌, ℕ, ◌+◌, ◌<◌, ◌≤◌, ◌⊎◌, List, [], ◌∷◌, length, take, map, get_or, Option, Result, Ok, Err}
use Rattle.std.specs.Io.KnownBytes.{Appends}
use Rattle.plan_io.specs.Devices.{HasFailed}
use Rattle.plan_rows.specs.World.{Text}
use Rattle.plan_rows.specs.Books.{Shelf}
use Rattle.plan_desk.specs.BookSteps.{Handled}
use Rattle.plan_http.specs.declared.runs.RunFault.{RunFault}
use Rattle.plan_http.specs.declared.connection.ConnEnd.{ConnEnd}
use Rattle.plan_http.specs.declared.connection.ConnEnd.TheVariants.{Replied, ReadFailed, WriteFailed}
use Rattle.plan_http.specs.Clients.{Known, OfBytes}
use Rattle.plan_http.specs.Answers.{Answer, text_of, Decision, answered, failed, starved, answer_of, IsOn}

-- the bytes of an answer that were written at the end
abbrev pub Responds : Option Text → Option Text → Answer → ConnEnd → Type 0
Responds taken after answer (Replied status) =
    (status ≡ answer.reply.status) × Appends taken after (text_of answer)
Responds taken after answer ReadFailed = ⊥
Responds taken after answer (WriteFailed sent) =
    (sent < length (text_of answer)) × Appends taken after (take sent (text_of answer))

-- one fault of the reader was counted if it failed, else none
abbrev pub ReaderFaults : ℕ → ℕ → ConnEnd → Type 0
ReaderFaults faults after (Replied status) = after ≡ faults
ReaderFaults faults after ReadFailed = after ≡ faults + 1
ReaderFaults faults after (WriteFailed sent) = after ≡ faults

-- the writer failed by one fault, or at the limit of calls
abbrev pub WriterFaults : ℕ → ℕ → ℕ → ℕ → ConnEnd → Type 0
WriterFaults calls calls_after faults faults_after (Replied status) = faults_after ≡ faults
WriterFaults calls calls_after faults faults_after ReadFailed = faults_after ≡ faults
WriterFaults calls calls_after faults faults_after (WriteFailed sent) =
    HasFailed calls calls_after faults faults_after

-- the response of a decision
abbrev pub response_of : Decision → Text
response_of d = text_of (answer_of d)

module _ {B : Type 0} (shelf : Shelf B) where
  -- the change of the office by a decision: a request is handled, else nothing changes
  abbrev pub Moves : B → B → Decision → Type 0
  Moves old new (answered request reply) = Handled shelf old new request reply
  Moves old new (failed check allow is_head) = new ≡ old
  Moves old new starved = new ≡ old

  -- One decision was made on the bytes of a client, and its response was written, completely or
  -- until the writer failed.
  pub record Serves (old new : B) (before after : Known) (taken sent : Option Text) (end : ConnEnd)
      : Type 0 where
    pub decision : Decision
    pub on : OfBytes before after (λ bytes. IsOn bytes decision)
    pub moves : Moves old new decision
    pub responds : Responds taken sent (answer_of decision) end

  -- the end of a connection: if the reader failed, nothing was decided or written
  abbrev pub Ends : B → B → Known → Known → Option Text → Option Text → ConnEnd → Type 0
  Ends old new before after taken sent (Replied status) =
      Serves old new before after taken sent (Replied status)
  Ends old new before after taken sent ReadFailed = (new ≡ old) × (sent ≡ taken)
  Ends old new before after taken sent (WriteFailed count) =
      Serves old new before after taken sent (WriteFailed count)

  -- connections are served one after another, each by one decision
  abbrev pub Serving : B → List Text → List Decision → B → Type 0
  Serving old [] [] new = new ≡ old
  Serving old (bytes ∷ conns) (d ∷ decisions) new =
      (middle : B) × IsOn bytes d × Moves old middle d × Serving middle conns decisions new
  Serving old conns decisions new = ⊥

  -- A run that stopped because memory ran out. The first connections were served, and the office is
  -- in the state after these or after one connection more.
  pub record Stops (old new : B) (conns : List Text) (decisions : List Decision) : Type 0 where
    pub count : ℕ
    pub within : count ≤ length conns
    pub middle : B
    pub served : Serving old (take count conns) decisions middle
    pub last : (new ≡ middle) ⊎ ((count < length conns)
        × ((d : Decision) × IsOn (get_or conns count []) d × Moves middle new d))

  -- a run: each connection was served, or memory ran out; its responses are those of its decisions
  abbrev pub IsRunOf : B → B → List Text → List Text → Result (Unit {0}) RunFault → Type 0
  IsRunOf old new conns responses (Ok x) =
      (decisions : List Decision) × Serving old conns decisions new
      × (responses ≡ map response_of decisions)
  IsRunOf old new conns responses (Err e) =
      (decisions : List Decision) × Stops old new conns decisions
      × (responses ≡ map response_of decisions)
