-- The rows that a crash may leave after connections were served (docs/definitions.md,
-- "Connections").
use Rattle.std.specs.Prelude.{◌≡◌, ◌⊎◌, ℕ, suc, ◌+◌, ◌<◌, ◌≤◌, Bool, true, false, List, length, take, drop, map, filter, Option, Some, option_map, slice_get}
use Rattle.std.specs.List.{list_any}
use Rattle.plan_rows.specs.World.{Text, World}
use Rattle.plan_desk.specs.Calls.{Request, Reply, writes, is_accepted}
use Rattle.plan_desk.specs.Stories.{IsWant}
use Rattle.plan_desk.specs.Decisions.{IsStep}
use Rattle.plan_rows.specs.Books.{Shelf, MoreFaults}
use Rattle.plan_desk.specs.BookSteps.{Handled}
use Rattle.plan_http.specs.Clients.{Known, OfBytes}
use Rattle.plan_http.specs.Judges.{asks, Judges}
use Rattle.plan_http.specs.Answers.{Decision, answered, failed, starved}
use Rattle.plan_http.specs.Connections.{Serving, response_of}

-- the decision accepted a command
abbrev pub accepts : Decision → Bool
accepts (answered request reply) = is_accepted request reply
accepts (failed check allow is_head) = false
accepts starved = false

-- at this place of a run a command was accepted
abbrev pub IsAcceptedAt : List Decision → ℕ → Type 0
IsAcceptedAt decisions place = option_map accepts (slice_get decisions place) ≡ Some true

-- a command that writes would change the first rows to the second
abbrev pub WouldMake : World → Request → Option World → Type 0
WouldMake w request left =
    (writes request.call ≡ true) × (other : Reply) × (after : World)
    × IsStep w request other after × (left ≡ Some after)

module _ {B : Type 0} (shelf : Shelf B) where
  -- One connection: a command was accepted, and a crash leaves the rows after it. Or no command was
  -- accepted, and a crash leaves rows that it could leave before, or those that a refused writing
  -- call would have made.
  abbrev pub LeavesOne : B → B → Known → Known → Option World → Type 0
  LeavesOne old new before after left =
      ((shelf.made new ≡ shelf.made old + 1) × (left ≡ Some (shelf.world new)))
      ⊎ ((shelf.made new ≡ shelf.made old) × (shelf.may_leave old left
      ⊎ ((shelf.refused new ≡ shelf.refused old + 1) × (request : Request)
      × OfBytes before after (λ bytes. Judges bytes (asks request))
      × WouldMake (shelf.world old) request left)))

  -- In a run, a writing call was refused for lack of memory or by the store. A crash leaves the
  -- rows that the call would have made from the rows at the start.
  pub record LeavesRefused (old new : B) (conns : List Text) (decisions : List Decision)
      (left : Option World) : Type 0 where
    pub place : ℕ
    pub request : Request
    pub reply : Reply
    pub decision_is : slice_get decisions place ≡ Some (answered request reply)
    pub want : IsWant reply
    pub before : B
    pub behind : B
    pub earlier : Serving shelf old (take place conns) (take place decisions) before
    pub moved : Handled shelf before behind request reply
    pub later : Serving shelf behind (drop (suc place) conns) (drop (suc place) decisions) new
    pub refused : shelf.refused behind ≡ shelf.refused before + 1
    pub stands : shelf.stands before
    pub would : WouldMake (shelf.world old) request left

  -- the last command that a run accepted, and the office after it
  pub record LastAccepted (old new : B) (conns : List Text) (decisions : List Decision)
      (settled : B) : Type 0 where
    pub place : ℕ
    pub accepted : IsAcceptedAt decisions place
    pub made : Serving shelf old (take (suc place) conns) (take (suc place) decisions) settled
    pub rest : Serving shelf settled (drop (suc place) conns) (drop (suc place) decisions) new
    pub none : list_any accepts (drop (suc place) decisions) ≡ false

  -- A run: if it accepted a command, a crash leaves the rows after the last accepted command, or
  -- those rows with one refused writing call. If it accepted none, a crash leaves rows that it
  -- could leave at the start, or the first rows with one refused writing call.
  abbrev pub LeavesRun : B → B → List Text → List Decision → Option World → Type 0
  LeavesRun old new conns decisions left =
      ((list_any accepts decisions ≡ false)
      × (shelf.may_leave old left ⊎ LeavesRefused old new conns decisions left))
      ⊎ ((settled : B) × (last : LastAccepted old new conns decisions settled)
      × ((left ≡ Some (shelf.world settled))
      ⊎ LeavesRefused settled new (drop (suc last.place) conns) (drop (suc last.place) decisions)
      left))

  -- The rows that are left come after the command at this place. They are the rows after some
  -- connections that include this one, or those rows with one refused writing call.
  pub record ComesAfter (old new : B) (conns : List Text) (decisions : List Decision) (place : ℕ)
      (left : Option World) : Type 0 where
    pub kept : ℕ
    pub within : place < kept
    pub settled : B
    pub served : Serving shelf old (take kept conns) (take kept decisions) settled
    pub leaves : (left ≡ Some (shelf.world settled))
        ⊎ LeavesRefused settled new (drop kept conns) (drop kept decisions) left

  -- A complete or stopped run, and the rows that a crash may leave after it. Its responses are
  -- those of its decisions, or of all but the last: if memory ran out, one connection more may have
  -- moved the office.
  pub record Outlasts (old new : B) (conns responses : List Text) : Type 0 where
    pub decisions : List Decision
    pub served : Serving shelf old (take (length decisions) conns) decisions new
    pub written : responses ≡ map response_of (take (length responses) decisions)
    pub last : length decisions ≤ length responses + 1
    -- as many writing calls were made as commands were accepted
    pub made : shelf.honest new
        → shelf.made new ≡ shelf.made old + length (filter accepts decisions)
    pub leaves : shelf.honest new → (left : Option World) → shelf.may_leave new left
        → LeavesRun old new (take (length decisions) conns) decisions left
    -- no accepted command is lost
    pub kept : shelf.honest new → (left : Option World) → shelf.may_leave new left
        → (place : ℕ) → IsAcceptedAt decisions place
        → ComesAfter old new (take (length decisions) conns) decisions place left
    -- only a counted fault of the disk closes the tables
    pub counts : shelf.faults old ≤ shelf.faults new
    pub closes : shelf.honest new → shelf.stands old
        → shelf.stands new ⊎ MoreFaults (shelf.faults old) (shelf.faults new)
