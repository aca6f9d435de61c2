-- Connections that were served turn by turn.
use Rattle.std.proofs.Common.{◌≡◌, ◌≤◌, ◌+◌, ℕ, suc, Bool, false, List, [], ◌∷◌, ◌++◌, Option, Some, None, Result, Ok, Err, IfOk, IsErr, MatchResult, length}
use Rattle.std.proofs.Common.{take, map, refl, sym, subst, ◌∙◌, ap, arith}
use Rattle.std.proofs.lemmas.List.{length-append, append-nil}
use Rattle.std.specs.Io.KnownBytes.{Appends}
use Rattle.plan_io.specs.declared.traits.DeviceFault.{DeviceFault}
use Rattle.plan_rows.specs.World.{Text}
use Rattle.plan_rows.specs.Books.{Shelf}
use Rattle.plan_http.specs.declared.connection.ConnEnd.{ConnEnd}
use Rattle.plan_http.specs.declared.connection.ConnEnd.TheVariants as end
use Rattle.plan_http.specs.Clients.{Known, IsFresh}
use Rattle.plan_http.specs.Answers.{Decision, IsOn}
use Rattle.plan_http.specs.Connections.{Serving, Serves, Ends, response_of}
use Rattle.plan_http.proofs.ClientLemmas.{of_heard}
use Rattle.plan_http.proofs.WholeRunLemmas.{outlasts, is_apart}
use Rattle.plan_door.specs.Serve.{MovedBy}
use Rattle.plan_door.specs.Turns.{Visit, MayBe, IsSent, Turn, missed, visited, decision_in, decisions_of, IsConn, AreConns, read_in, read_of, IsServedBy}
use Rattle.plan_door.specs.Turns.{IsServed, IsTurn, AreTurns, IsRun, Runs, IsVisited, AreVisited, Visiting}

-- a fact about a result holds after the call is counted
pub counted_ok : {A E F : Type 0} (P : A → Type 0) (answer : Result A E) (result : Result A F) → IfOk answer P
    → MatchResult answer (λ value. result ≡ Ok value) (λ e. IsErr result) → IfOk result P
counted_ok P (Ok value) result h is = subst (λ r. IfOk r P) (sym is) h
counted_ok P (Err e) (Err f) h is = tt
counted_ok P (Err e) (Ok value) h is = absurd cc

-- sides that have read nothing and sent nothing
pub fresh_sides : {A E : Type 0} (heard : A → Text) (ended : A → Bool) (told : A → Text) (result : Result A E)
    → IfOk result (λ sides. (heard sides ≡ []) × (ended sides ≡ false) × (told sides ≡ []))
    → IfOk result (λ sides. IsFresh (record { heard = heard sides; ended = ended sides; left = None }) × (Some (told sides) ≡ Some []))
fresh_sides heard ended told (Ok sides) (silent, unended, unsent) = (record { silent = silent; unended = unended }, ap Some unsent)
fresh_sides heard ended told (Err e) h = tt

-- the visit of a connection
abbrev pub visit_of : Known → Text → ConnEnd → Option Decision → Visit
visit_of known sent e decided = record {
  read = known.heard;
  ended = known.ended;
  sent = sent;
  ending = e;
  decided = decided;
}

-- a sink that had taken nothing has taken these bytes
sent_all : (taken after : Option Text) (text : Text) → taken ≡ Some [] → Appends taken after text → after ≡ Some text
sent_all taken None text none appends = absurd (subst (λ t. Appends t None text) none appends)
sent_all taken (Some all) text none appends = ap Some (subst (λ t. Appends t (Some all) text) none appends)

-- the bytes that were read are bytes that the connections may have
may_be_read : (v : Visit) → MayBe v v.read
may_be_read v = record { more = []; whole = sym (append-nil v.read); none = λ ended. refl }

read_one : (v : Visit) (decided : Option Decision) → IsConn v decided (read_in v decided)
read_one v None = refl
read_one v (Some d) = (v.read, refl, may_be_read v)

read_are : (turns : List Turn) → AreConns turns (read_of turns)
read_are [] = refl
read_are (missed ∷ turns) = read_are turns
read_are (visited v ∷ turns) = (read_in v v.decided, read_of turns, refl, read_one v v.decided, read_are turns)

module _ {B : Type 0} (shelf : Shelf B) where
  on_bytes : (old new : B) (before after : Known) (taken sent : Option Text) (e : ConnEnd) (bytes : Text) → IsFresh before
      → (s : Serves shelf old new before after taken sent e) → IsSent bytes (response_of s.decision) e
      → IsServedBy shelf old new (visit_of after bytes e (Some s.decision)) s.decision
  on_bytes old new before after taken sent e bytes fresh s told = record {
    on = λ all may. subst (λ text. IsOn text s.decision) (sym may.whole) (of_heard s.on fresh.silent may.more may.none);
    moves = s.moves;
    told = told;
  }

  -- a served connection has one decision or none
  pub served_by : (old new : B) (before after : Known) (taken sent : Option Text) (e : ConnEnd) → IsFresh before → taken ≡ Some []
      → Ends shelf old new before after taken sent e
      → (bytes : Text) × (sent ≡ Some bytes) × ((decided : Option Decision) × IsServed shelf old new (visit_of after bytes e decided) decided)
  served_by old new before after taken sent (end.Replied status) fresh none s =
      let text = response_of s.decision in
      (text, sent_all taken sent text none s.responds.1, (Some s.decision, on_bytes old new before after taken sent (end.Replied status) text fresh s refl))
  served_by old new before after taken sent end.ReadFailed fresh none (same, silent) = ([], silent ∙ none, (None, (refl, same, refl)))
  served_by old new before after taken sent (end.WriteFailed count) fresh none s =
      let text = take count (response_of s.decision) in
      (text, sent_all taken sent text none s.responds.1, (Some s.decision, on_bytes old new before after taken sent (end.WriteFailed count) text fresh s (s.responds.0, refl)))

  -- one turn more
  turns_more : (old middle new : B) (turns : List Turn) (turn : Turn) → AreTurns shelf old turns middle → IsTurn shelf middle new turn
      → AreTurns shelf old (turns ++ turn ∷ []) new
  turns_more old middle new [] turn a b = (new, subst (λ (o : B). IsTurn shelf o new turn) a b, refl)
  turns_more old middle new (first ∷ turns) turn a b = (a.0, a.1, turns_more a.0 middle new turns turn a.2 b)

  -- a turn moves the office by one decision at most
  turn_moves : (old middle new : B) (turn : Turn) (n : ℕ) → IsTurn shelf old middle turn
      → ((decisions : List Decision) × (length decisions ≤ n) × MovedBy shelf middle decisions new)
      → (decisions : List Decision) × (length decisions ≤ suc n) × MovedBy shelf old decisions new
  turn_moves old middle new missed n same (decisions, few, moved) =
      (decisions, omega (arith, few), subst (λ (o : B). MovedBy shelf o decisions new) same moved)
  turn_moves old middle new (visited v) n served (decisions, few, moved) = by_decision v.decided served
    where
      by_decision : (d : Option Decision) → IsServed shelf old middle v d
          → (all : List Decision) × (length all ≤ suc n) × MovedBy shelf old all new
      by_decision None (failed, same, silent) =
          (decisions, omega (arith, few), subst (λ (o : B). MovedBy shelf o decisions new) same moved)
      by_decision (Some d) s = (d ∷ decisions, omega (arith, few), (middle, s.moves, moved))

  -- turns move the office by at most as many decisions
  pub turns_move : (old new : B) (turns : List Turn) → AreTurns shelf old turns new
      → (decisions : List Decision) × (length decisions ≤ length turns) × MovedBy shelf old decisions new
  turns_move old new [] a = ([], omega arith, a)
  turns_move old new (turn ∷ turns) a =
      turn_moves old a.0 new turn (length turns) a.1 (turns_move a.0 new turns a.2)

  -- turns are a run of the connections that were decided
  serving_of : (old new : B) (turns : List Turn) (conns : List Text) → AreTurns shelf old turns new → AreConns turns conns
      → Serving shelf old conns (decisions_of turns) new
  serving_of old new [] conns are none = subst (λ (list : List Text). Serving shelf old list [] new) (sym none) are
  serving_of old new (missed ∷ turns) conns are conns_are =
      subst (λ (o : B). Serving shelf o conns (decisions_of turns) new) are.1 (serving_of are.0 new turns conns are.2 conns_are)
  serving_of old new (visited v ∷ turns) conns are conns_are =
      let rest = serving_of are.0 new turns conns_are.1 are.2 conns_are.4 in
      subst (λ (list : List Text). Serving shelf old list (decision_in v.decided ++ decisions_of turns) new) (sym conns_are.2)
      (by_decision v.decided are.1 conns_are.0 conns_are.3 rest)
    where
      by_decision : (d : Option Decision) → IsServed shelf old are.0 v d → (first : List Text) → IsConn v d first
          → Serving shelf are.0 conns_are.1 (decisions_of turns) new → Serving shelf old (first ++ conns_are.1) (decision_in d ++ decisions_of turns) new
      by_decision None served first none rest =
          subst (λ (list : List Text). Serving shelf old (list ++ conns_are.1) (decisions_of turns) new) (sym none)
          (subst (λ (o : B). Serving shelf o conns_are.1 (decisions_of turns) new) served.1 rest)
      by_decision (Some d) served first one rest =
          subst (λ (list : List Text). Serving shelf old (list ++ conns_are.1) (d ∷ decisions_of turns) new) (sym one.1)
          (are.0, served.on one.0 one.2, served.moves, rest)

  run_of : (old new : B) (conns : List Text) (decisions : List Decision) → Serving shelf old conns decisions new → IsRun shelf old new conns decisions
  run_of old new conns decisions served = record {
    served = served;
    crash = outlasts shelf old new conns [] (map response_of decisions) 0 (Ok tt) refl (decisions, served, refl) tt;
    apart = λ honest desk. is_apart shelf old new conns [] (map response_of decisions) 0 (Ok tt) refl (decisions, served, refl) tt honest desk;
  }

  runs_of : (old new : B) (turns : List Turn) → AreTurns shelf old turns new → Runs shelf old new turns
  runs_of old new turns are = record {
    turns_are = are;
    run = λ conns conns_are. run_of old new conns (decisions_of turns) (serving_of old new turns conns are conns_are);
    read = read_are turns;
  }

  -- no turn
  pub no_turns : (old : B) → Runs shelf old old []
  no_turns old = runs_of old old [] refl

module _ {V R W : Type 0} (known : R → Known) (taken : W → Option Text)
    (Admits : V → V → Result (R × W) DeviceFault → Type 0) (Dismisses : V → V → R → W → ConnEnd → Type 0) where
  visits_more : (came between went : V) (turns : List Turn) (turn : Turn) → AreVisited known taken Admits Dismisses came turns between
      → IsVisited known taken Admits Dismisses between went turn
      → AreVisited known taken Admits Dismisses came (turns ++ turn ∷ []) went
  visits_more came between went [] turn a b =
      (went, subst (λ (v : V). IsVisited known taken Admits Dismisses v went turn) a b, refl)
  visits_more came between went (first ∷ turns) turn a b = (a.0, a.1, visits_more a.0 between went turns turn a.2 b)

  -- no turn yet
  pub unvisited : {B : Type 0} (shelf : Shelf B) (old : B) (came : V) → Visiting known taken Admits Dismisses shelf old old came came 0
  unvisited shelf old came = record {
    turns = [];
    many = refl;
    served = runs_of shelf old old [] refl;
    visits = refl;
  }

  -- one turn more
  pub visiting_more : {B : Type 0} (shelf : Shelf B) (old middle new : B) (came between went : V) (count : ℕ)
      → Visiting known taken Admits Dismisses shelf old middle came between count
      → ((turn : Turn) × IsTurn shelf middle new turn × IsVisited known taken Admits Dismisses between went turn)
      → Visiting known taken Admits Dismisses shelf old new came went (count + 1)
  visiting_more shelf old middle new came between went count v (turn, is, visits) =
      let long = length-append v.turns (turn ∷ []) in record {
        turns = v.turns ++ turn ∷ [];
        many = omega (arith, long, v.many);
        served = runs_of shelf old new (v.turns ++ turn ∷ []) (turns_more shelf old middle new v.turns turn v.served.turns_are is);
        visits = visits_more came between went v.turns turn v.visits visits;
      }

  -- the decisions by which the office changed
  pub visiting_moves : {B : Type 0} (shelf : Shelf B) (old new : B) (came went : V) (count : ℕ)
      → Visiting known taken Admits Dismisses shelf old new came went count
      → (decisions : List Decision) × (length decisions ≤ count) × MovedBy shelf old decisions new
  visiting_moves shelf old new came went count v =
      let m = turns_move shelf old new v.turns v.served.turns_are in (m.0, omega (arith, m.1, v.many), m.2)
