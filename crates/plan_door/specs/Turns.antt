-- Connections from any source, served turn by turn (docs/definitions.md, "Connections").
use Rattle.std.specs.Prelude.{◌≡◌, ◌<◌, ◌+◌, ℕ, Bool, true, List, [], ◌∷◌, ◌++◌, length, take, map, Option, Some, None, Result, Ok, Err}
use Rattle.plan_io.specs.declared.traits.DeviceFault.{DeviceFault}
use Rattle.plan_rows.specs.World.{Text}
use Rattle.plan_rows.specs.Books.{Shelf}
use Rattle.plan_http.specs.declared.connection.ConnEnd.{ConnEnd}
use Rattle.plan_http.specs.declared.connection.ConnEnd.TheVariants.{Replied, ReadFailed, WriteFailed}
use Rattle.plan_http.specs.Clients.{Known, IsFresh}
use Rattle.plan_http.specs.Answers.{Decision, IsOn}
use Rattle.plan_http.specs.Connections.{Moves, Serving, response_of}
use Rattle.plan_http.specs.Crashes.{Outlasts}
use Rattle.plan_http.specs.Isolated.{IsApart}

-- A served connection. It has the bytes that its reads returned, and whether their end was seen. It
-- has the bytes that its writes accepted, its end, and its decision, if there was one.
pub record Visit : Type 0 where
  pub read : Text
  pub ended : Bool
  pub sent : Text
  pub ending : ConnEnd
  pub decided : Option Decision

-- the bytes of the connection may be these: the bytes that were read, followed by any bytes unless
-- the end was seen
pub record MayBe (v : Visit) (bytes : Text) : Type 0 where
  pub more : Text
  pub whole : bytes ≡ v.read ++ more
  pub none : v.ended ≡ true → more ≡ []

-- the bytes of a response that were sent at the end: all of them, or the first ones
abbrev pub IsSent : Text → Text → ConnEnd → Type 0
IsSent sent response (Replied status) = sent ≡ response
IsSent sent response ReadFailed = ⊥
IsSent sent response (WriteFailed count) = (count < length response) × (sent ≡ take count response)

-- a turn: no connection came, or one came and was served
pub data Turn : Type 0 where
  missed : Turn
  visited : Visit → Turn

-- how many turns brought no connection
abbrev pub misses_in : List Turn → ℕ
misses_in [] = 0
misses_in (missed ∷ turns) = 1 + misses_in turns
misses_in (visited v ∷ turns) = misses_in turns

-- the decision on a connection, as a list
abbrev pub decision_in : Option Decision → List Decision
decision_in None = []
decision_in (Some d) = d ∷ []

-- the decisions that were made in turns
abbrev pub decisions_of : List Turn → List Decision
decisions_of [] = []
decisions_of (missed ∷ turns) = decisions_of turns
decisions_of (visited v ∷ turns) = decision_in v.decided ++ decisions_of turns

-- the bytes of a connection, if it was decided
abbrev pub IsConn : Visit → Option Decision → List Text → Type 0
IsConn v None conns = conns ≡ []
IsConn v (Some d) conns = (bytes : Text) × (conns ≡ bytes ∷ []) × MayBe v bytes

-- the connections with a decision, in the order of their turns, may have these bytes
abbrev pub AreConns : List Turn → List Text → Type 0
AreConns [] conns = conns ≡ []
AreConns (missed ∷ turns) conns = AreConns turns conns
AreConns (visited v ∷ turns) conns =
    (first : List Text) × (rest : List Text) × (conns ≡ first ++ rest)
    × IsConn v v.decided first × AreConns turns rest

-- the bytes that were read from these connections
abbrev pub read_in : Visit → Option Decision → List Text
read_in v None = []
read_in v (Some d) = v.read ∷ []

abbrev pub read_of : List Turn → List Text
read_of [] = []
read_of (missed ∷ turns) = read_of turns
read_of (visited v ∷ turns) = read_in v v.decided ++ read_of turns

module _ {B : Type 0} (shelf : Shelf B) where
  -- a connection was served by this decision, on its bytes, and was sent the response
  pub record IsServedBy (old new : B) (v : Visit) (d : Decision) : Type 0 where
    pub on : (bytes : Text) → MayBe v bytes → IsOn bytes d
    pub moves : Moves shelf old new d
    pub told : IsSent v.sent (response_of d) v.ending

  -- a connection was served once: by this decision, or without one because the reader failed
  abbrev pub IsServed : B → B → Visit → Option Decision → Type 0
  IsServed old new v None = (v.ending ≡ ReadFailed) × (new ≡ old) × (v.sent ≡ [])
  IsServed old new v (Some d) = IsServedBy old new v d

  -- the office in one turn
  abbrev pub IsTurn : B → B → Turn → Type 0
  IsTurn old new missed = new ≡ old
  IsTurn old new (visited v) = IsServed old new v v.decided

  -- the office in turns, one after another
  abbrev pub AreTurns : B → List Turn → B → Type 0
  AreTurns old [] new = new ≡ old
  AreTurns old (turn ∷ turns) new =
      (middle : B) × IsTurn old middle turn × AreTurns middle turns new

  -- Connections with these bytes were served by these decisions: with the rows that a crash may
  -- leave, and the responses to each desk.
  pub record IsRun (old new : B) (conns : List Text) (decisions : List Decision) : Type 0 where
    pub served : Serving shelf old conns decisions new
    pub crash : Outlasts shelf old new conns (map response_of decisions)
    pub apart : shelf.honest new → (desk : Text)
        → IsApart shelf old new conns (map response_of decisions) desk

  -- Turns are a run, whatever the connections sent after the bytes that were read. So they are a
  -- run of connections that sent exactly the bytes that were read.
  pub record Runs (old new : B) (turns : List Turn) : Type 0 where
    pub turns_are : AreTurns old turns new
    pub run : (conns : List Text) → AreConns turns conns → IsRun old new conns (decisions_of turns)
    pub read : AreConns turns (read_of turns)

module _ {V R W : Type 0} (known : R → Known) (taken : W → Option Text)
    (Admits : V → V → Result (R × W) DeviceFault → Type 0)
    (Dismisses : V → V → R → W → ConnEnd → Type 0) where
  -- A connection was admitted before any read or write, and closed after these bytes were read and
  -- those were sent.
  pub record IsVisit (came went : V) (v : Visit) : Type 0 where
    pub reader : R
    pub writer : W
    pub between : V
    pub admitted : Admits came between (Ok (reader, writer))
    pub fresh : IsFresh (known reader)
    pub unsent : taken writer ≡ Some []
    pub heard : R
    pub told : W
    pub read : v.read ≡ (known heard).heard
    pub ended : v.ended ≡ (known heard).ended
    pub sent : taken told ≡ Some v.sent
    pub dismissed : Dismisses between went heard told v.ending

  -- the source of connections in one turn
  abbrev pub IsVisited : V → V → Turn → Type 0
  IsVisited came went missed = (e : DeviceFault) × Admits came went (Err e)
  IsVisited came went (visited v) = IsVisit came went v

  -- the same in turns: a connection is awaited after the previous one was closed
  abbrev pub AreVisited : V → List Turn → V → Type 0
  AreVisited came [] went = went ≡ came
  AreVisited came (turn ∷ turns) went =
      (between : V) × IsVisited came between turn × AreVisited between turns went

  -- `count` turns: each admitted connection was served once, in the order of admission, and closed
  -- before the next one was awaited. And they are a run.
  pub record Visiting {B : Type 0} (shelf : Shelf B) (old new : B) (came went : V) (count : ℕ)
      : Type 0 where
    pub turns : List Turn
    pub many : length turns ≡ count
    pub served : Runs shelf old new turns
    pub visits : AreVisited came turns went
