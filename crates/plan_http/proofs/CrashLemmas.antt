-- The rows that a crash may leave after connections were served.
use Rattle.std.proofs.Common.{◌≡◌, ◌⊎◌, ℕ, zero, suc, ◌+◌, ◌<◌, ◌≤◌, true, false, ◌&&◌, ◌||◌, List, [], ◌∷◌, length, take, drop, filter, Option, Some, inl, inr, refl, sym, ap, ◌∙◌, subst, arith}
use Rattle.std.proofs.lemmas.Bool.{cases_Bool, both_ways}
use Rattle.std.specs.Prelude.{if◌then◌else◌, nat_lt}
use Rattle.std.specs.List.{list_any}
use Rattle.plan_rows.specs.World.{Text, World}
use Rattle.plan_rows.specs.Changes.{apply}
use Rattle.plan_rows.specs.Views.{view}
use Rattle.plan_desk.specs.Calls.{Request, Reply, subject, writes, is_accepted}
use Rattle.plan_desk.specs.Stories.{IsWant}
use Rattle.plan_desk.specs.Decisions.{IsStep, IsDecision}
use Rattle.plan_rows.specs.Books.{Shelf}
use Rattle.plan_desk.specs.BookSteps.{Handled}
use Rattle.plan_desk.proofs.SortedLemmas.{Keeps, Makes, sorted_decision}
use Rattle.plan_desk.proofs.DecidingLemmas.{Closes, closes_then}
use Rattle.plan_http.specs.Judges.{asks, Judges}
use Rattle.plan_http.specs.Answers.{Decision, answered, failed, starved, IsOn}
use Rattle.plan_http.specs.Connections.{Moves, Serving}
use Rattle.plan_http.specs.Clients.{Known, OfBytes}
use Rattle.plan_http.specs.Crashes.{accepts, IsAcceptedAt, WouldMake, LeavesOne, LeavesRefused, LeavesRun, ComesAfter}
use Rattle.plan_http.proofs.ClientLemmas.{of_bytes_map}
use Rattle.plan_http.proofs.HeadlineLemmas.{served_honest}

-- a step that accepts no command leaves the rows
unaccepted_keeps : (w : World) (r : Request) (reply : Reply) (after : World) → is_accepted r reply ≡ false → IsStep w r reply after → after ≡ w
unfolding IsStep IsDecision
unaccepted_keeps w r reply after refused (change, decided, is) = by_sort (sorted_decision (view (subject r) w) r reply change decided).0
  where
    by_sort : Keeps (writes r.call) reply change ⊎ Makes (writes r.call) reply change → after ≡ w
    by_sort (inl keeps) = is ∙ ap (λ c. apply (subject r) c w) keeps.kept
    by_sort (inr makes) = absurd (both_ways _ refused (ap (λ b. b && nat_lt reply.status 300) makes.is_command ∙ makes.accepted))

-- a run with an accepted command at a place accepted some command
some_accepted : (decisions : List Decision) (place : ℕ) → IsAcceptedAt decisions place → list_any accepts decisions ≡ true
some_accepted [] place h = cc
some_accepted (d ∷ decisions) zero h = grind (arith, h)
some_accepted (d ∷ decisions) (suc place) h = grind (arith, some_accepted decisions place h)

-- an accepted command comes before a place after which none is accepted
in_front : (kept : ℕ) (decisions : List Decision) (place : ℕ) → list_any accepts (drop kept decisions) ≡ false → IsAcceptedAt decisions place → place < kept
in_front zero decisions place none h = absurd (both_ways _ none (some_accepted decisions place h))
in_front (suc kept) [] place none h = absurd (both_ways _ refl (some_accepted [] place h))
in_front (suc kept) (d ∷ decisions) zero none h = omega arith
in_front (suc kept) (d ∷ decisions) (suc place) none h = let below : place < kept = in_front kept decisions place none h in omega (arith, below)

module _ {B : Type 0} (shelf : Shelf B) where
  -- readable tables were readable before
  moved_stood : (old new : B) (d : Decision) → Moves shelf old new d → shelf.honest new → shelf.stands new → shelf.stands old
  moved_stood old new (answered r reply) h honest stands = h.stood honest stands
  moved_stood old new (failed check allow is_head) h honest stands = subst shelf.stands h stands
  moved_stood old new starved h honest stands = subst shelf.stands h stands

  served_stood : (old new : B) (conns : List Text) (decisions : List Decision) → Serving shelf old conns decisions new → shelf.honest new → shelf.stands new → shelf.stands old
  served_stood old new [] [] h honest stands = subst shelf.stands h stands
  served_stood old new [] (d ∷ decisions) h honest stands = absurd h
  served_stood old new (bytes ∷ conns) [] h honest stands = absurd h
  served_stood old new (bytes ∷ conns) (d ∷ decisions) (middle, is_on, moves, rest) honest stands =
      moved_stood old middle d moves (served_honest shelf middle new conns decisions rest honest) (served_stood middle new conns decisions rest honest stands)

  -- only a counted fault closes the tables
  moved_counts : (old new : B) (d : Decision) → Moves shelf old new d → shelf.faults old ≤ shelf.faults new
  moved_counts old new (answered r reply) h = h.counts
  moved_counts old new (failed check allow is_head) h = let same : shelf.faults new ≡ shelf.faults old = ap shelf.faults h in omega (arith, same)
  moved_counts old new starved h = let same : shelf.faults new ≡ shelf.faults old = ap shelf.faults h in omega (arith, same)

  moved_closes : (old new : B) (d : Decision) → Moves shelf old new d → shelf.honest new → Closes shelf old new
  moved_closes old new (answered r reply) h honest = h.closes honest
  moved_closes old new (failed check allow is_head) h honest = λ stands. inl (subst shelf.stands (sym h) stands)
  moved_closes old new starved h honest = λ stands. inl (subst shelf.stands (sym h) stands)

  pub run_counts : (old new : B) (conns : List Text) (decisions : List Decision) → Serving shelf old conns decisions new → shelf.faults old ≤ shelf.faults new
  run_counts old new [] [] h = let same : shelf.faults new ≡ shelf.faults old = ap shelf.faults h in omega (arith, same)
  run_counts old new [] (d ∷ decisions) h = absurd h
  run_counts old new (bytes ∷ conns) [] h = absurd h
  run_counts old new (bytes ∷ conns) (d ∷ decisions) (middle, is_on, moves, rest) =
      let one = moved_counts old middle d moves in
      let more = run_counts middle new conns decisions rest in
      omega (arith, one, more)

  pub run_closes : (old new : B) (conns : List Text) (decisions : List Decision) → Serving shelf old conns decisions new → shelf.honest new → Closes shelf old new
  run_closes old new [] [] h honest = λ stands. inl (subst shelf.stands (sym h) stands)
  run_closes old new [] (d ∷ decisions) h honest = absurd h
  run_closes old new (bytes ∷ conns) [] h honest = absurd h
  run_closes old new (bytes ∷ conns) (d ∷ decisions) (middle, is_on, moves, rest) honest =
      closes_then shelf old middle new (moved_counts old middle d moves) (run_counts middle new conns decisions rest)
      (moved_closes old middle d moves (served_honest shelf middle new conns decisions rest honest)) (run_closes middle new conns decisions rest honest)

  -- only a decision that accepts a command changes the rows
  moved_same : (old new : B) (d : Decision) → Moves shelf old new d → accepts d ≡ false → shelf.honest new → shelf.stands new → shelf.world new ≡ shelf.world old
  moved_same old new (answered r reply) h unaccepted honest stands = elim (h.step honest) [
    | inl made ↦ unaccepted_keeps (shelf.world old) r reply (shelf.world new) unaccepted made.1
    | inr want ↦ want.1 stands
  ]
  moved_same old new (failed check allow is_head) h unaccepted honest stands = ap shelf.world h
  moved_same old new starved h unaccepted honest stands = ap shelf.world h

  -- after an accepted command a crash leaves its rows
  moved_durable : (old new : B) (d : Decision) → Moves shelf old new d → accepts d ≡ true → shelf.honest new → (left : Option World) → shelf.may_leave new left
      → left ≡ Some (shelf.world new)
  moved_durable old new (answered r reply) h took honest left may = h.durable honest took left may
  moved_durable old new (failed check allow is_head) h took honest left may = absurd (both_ways _ refl took)
  moved_durable old new starved h took honest left may = absurd (both_ways _ refl took)

  -- one writing call for each accepted command, and for nothing else
  moved_made : (old new : B) (d : Decision) → Moves shelf old new d → accepts d ≡ true → shelf.honest new → shelf.made new ≡ shelf.made old + 1
  moved_made old new (answered r reply) h took honest = (h.made honest took).0
  moved_made old new (failed check allow is_head) h took honest = absurd (both_ways _ refl took)
  moved_made old new starved h took honest = absurd (both_ways _ refl took)

  moved_unmade : (old new : B) (d : Decision) → Moves shelf old new d → accepts d ≡ false → shelf.honest new → shelf.made new ≡ shelf.made old
  moved_unmade old new (answered r reply) h unaccepted honest = h.unmade honest unaccepted
  moved_unmade old new (failed check allow is_head) h unaccepted honest = ap shelf.made h
  moved_unmade old new starved h unaccepted honest = ap shelf.made h

  -- the refused change, as a step on the request
  record Refused (old new : B) (d : Decision) (left : Option World) : Type 0 where
    request : Request
    reply : Reply
    is : d ≡ answered request reply
    want : IsWant reply
    moved : Handled shelf old new request reply
    refused : shelf.refused new ≡ shelf.refused old + 1
    stands : shelf.stands old
    would : WouldMake (shelf.world old) request left

  moved_crash : (old new : B) (d : Decision) → Moves shelf old new d → accepts d ≡ false → shelf.honest new → (left : Option World) → shelf.may_leave new left
      → shelf.may_leave old left ⊎ Refused old new d left
  moved_crash old new (answered r reply) h unaccepted honest left may = elim (h.crash honest unaccepted left may) [
    | inl before ↦ inl before
    | inr more ↦ inr (record {
      request = r;
      reply = reply;
      is = refl;
      want = more.0;
      moved = h;
      refused = more.2;
      stands = more.3;
      would = (more.1, more.4.0, more.4.1, more.4.2, more.4.3);
    })
  ]
  moved_crash old new (failed check allow is_head) h unaccepted honest left may = inl (subst (λ (b : B). shelf.may_leave b left) h may)
  moved_crash old new starved h unaccepted honest left may = inl (subst (λ (b : B). shelf.may_leave b left) h may)

  -- the bytes of the refused request
  refused_on : (before after : Known) (old new : B) (d : Decision) (left : Option World) (r : Refused old new d left)
      → OfBytes before after (λ bytes. IsOn bytes d) → OfBytes before after (λ bytes. Judges bytes (asks r.request))
  refused_on before after old new d left r on = of_bytes_map on (λ bytes is. subst (λ (e : Decision). IsOn bytes e) r.is is)

  -- one connection
  pub one_left : (before after : Known) (old new : B) (d : Decision) → OfBytes before after (λ bytes. IsOn bytes d) → Moves shelf old new d → shelf.honest new
      → (left : Option World) → shelf.may_leave new left → LeavesOne shelf old new before after left
  one_left before after old new d on moves honest left may = by_answer (cases_Bool (accepts d))
    where
      by_answer : (accepts d ≡ true) ⊎ (accepts d ≡ false) → LeavesOne shelf old new before after left
      by_answer (inl took) = inl (moved_made old new d moves took honest, moved_durable old new d moves took honest left may)
      by_answer (inr unaccepted) = inr (
        moved_unmade old new d moves unaccepted honest,
        elim (moved_crash old new d moves unaccepted honest left may) [
          | inl before ↦ inl before
          | inr r ↦ inr (r.refused, r.request, refused_on before after old new d left r on, r.would)
        ],
      )

  -- a connection more at the front
  made_first : (old middle new : B) (d : Decision) (decisions : List Decision) → Moves shelf old middle d → shelf.honest middle
      → shelf.made new ≡ shelf.made middle + length (filter accepts decisions) → shelf.made new ≡ shelf.made old + length (filter accepts (d ∷ decisions))
  made_first old middle new d decisions moves honest behind = by_answer (cases_Bool (accepts d))
    where
      by_answer : (accepts d ≡ true) ⊎ (accepts d ≡ false) → shelf.made new ≡ shelf.made old + length (filter accepts (d ∷ decisions))
      by_answer (inl took) =
          let one : length (filter accepts (d ∷ decisions)) ≡ suc (length (filter accepts decisions)) =
          ap (λ b. length (if b then d ∷ filter accepts decisions else filter accepts decisions)) took in
          let made : shelf.made middle ≡ shelf.made old + 1 = moved_made old middle d moves took honest in
          omega (arith, behind, one, made)
      by_answer (inr unaccepted) =
          let none : length (filter accepts (d ∷ decisions)) ≡ length (filter accepts decisions) =
          ap (λ b. length (if b then d ∷ filter accepts decisions else filter accepts decisions)) unaccepted in
          let made : shelf.made middle ≡ shelf.made old = moved_unmade old middle d moves unaccepted honest in
          omega (arith, behind, none, made)

  -- as many writing calls as accepted commands
  pub run_made : (old new : B) (conns : List Text) (decisions : List Decision) → Serving shelf old conns decisions new → shelf.honest new
      → shelf.made new ≡ shelf.made old + length (filter accepts decisions)
  run_made old new [] [] h honest = let same : shelf.made new ≡ shelf.made old = ap shelf.made h in omega (arith, same)
  run_made old new [] (d ∷ decisions) h honest = absurd h
  run_made old new (bytes ∷ conns) [] h honest = absurd h
  run_made old new (bytes ∷ conns) (d ∷ decisions) (middle, is_on, moves, rest) honest =
      made_first old middle new d decisions moves (served_honest shelf middle new conns decisions rest honest) (run_made middle new conns decisions rest honest)

  -- an accepted command at the front of a run
  accepted_first : (old middle new : B) (bytes : Text) (conns : List Text) (d : Decision) (decisions : List Decision) (left : Option World)
      → IsOn bytes d → Moves shelf old middle d → Serving shelf middle conns decisions new → accepts d ≡ true
      → (shelf.may_leave middle left → left ≡ Some (shelf.world middle))
      → LeavesRun shelf middle new conns decisions left → LeavesRun shelf old new (bytes ∷ conns) (d ∷ decisions) left
  accepted_first old middle new bytes conns d decisions left is_on moves rest took durable (inl (none, how)) = inr (
    middle,
    record {
      place = 0;
      accepted = ap Some took;
      made = (middle, is_on, moves, refl);
      rest = rest;
      none = none;
    },
    elim how [
      | inl may ↦ inl (durable may)
      | inr refused ↦ inr refused
    ],
  )
  accepted_first old middle new bytes conns d decisions left is_on moves rest took durable (inr (settled, last, how)) = inr (
    settled,
    record {
      place = suc last.place;
      accepted = last.accepted;
      made = (middle, is_on, moves, last.made);
      rest = last.rest;
      none = last.none;
    },
    how,
  )

  -- one connection before a refused writing call
  refused_later : (old middle new : B) (bytes : Text) (conns : List Text) (d : Decision) (decisions : List Decision) (left : Option World)
      → IsOn bytes d → Moves shelf old middle d → accepts d ≡ false → shelf.honest new
      → LeavesRefused shelf middle new conns decisions left → LeavesRefused shelf old new (bytes ∷ conns) (d ∷ decisions) left
  refused_later old middle new bytes conns d decisions left is_on moves unaccepted honest r = record {
    place = suc r.place;
    request = r.request;
    reply = r.reply;
    decision_is = r.decision_is;
    want = r.want;
    before = r.before;
    behind = r.behind;
    earlier = (middle, is_on, moves, r.earlier);
    moved = r.moved;
    later = r.later;
    refused = r.refused;
    stands = r.stands;
    would = subst (λ (w : World). WouldMake w r.request left) same r.would;
  }
    where
      before : shelf.honest r.before
      before = r.moved.honesty (served_honest shelf r.behind new (drop (suc r.place) conns) (drop (suc r.place) decisions) r.later honest)

      same : shelf.world middle ≡ shelf.world old
      same =
          moved_same old middle d moves unaccepted (served_honest shelf middle r.before (take r.place conns) (take r.place decisions) r.earlier before)
          (served_stood middle r.before (take r.place conns) (take r.place decisions) r.earlier before r.stands)

  -- a writing call that was refused at the front of a run
  refused_first : (old middle new : B) (bytes : Text) (conns : List Text) (d : Decision) (decisions : List Decision) (left : Option World)
      → Serving shelf middle conns decisions new → Refused old middle d left → LeavesRefused shelf old new (bytes ∷ conns) (d ∷ decisions) left
  refused_first old middle new bytes conns d decisions left rest r = record {
    place = 0;
    request = r.request;
    reply = r.reply;
    decision_is = ap Some r.is;
    want = r.want;
    before = old;
    behind = middle;
    earlier = refl;
    moved = r.moved;
    later = rest;
    refused = r.refused;
    stands = r.stands;
    would = r.would;
  }

  -- anything else at the front of a run
  unaccepted_first : (old middle new : B) (bytes : Text) (conns : List Text) (d : Decision) (decisions : List Decision) (left : Option World)
      → IsOn bytes d → Moves shelf old middle d → Serving shelf middle conns decisions new → accepts d ≡ false → shelf.honest new
      → LeavesRun shelf middle new conns decisions left → LeavesRun shelf old new (bytes ∷ conns) (d ∷ decisions) left
  unaccepted_first old middle new bytes conns d decisions left is_on moves rest unaccepted honest (inl (none, how)) = inl (
    ap (λ b. b || list_any accepts decisions) unaccepted ∙ none,
    elim how [
      | inl may ↦ elim (moved_crash old middle d moves unaccepted (served_honest shelf middle new conns decisions rest honest) left may) [
        | inl before ↦ inl before
        | inr refused ↦ inr (refused_first old middle new bytes conns d decisions left rest refused)
      ]
      | inr refused ↦ inr (refused_later old middle new bytes conns d decisions left is_on moves unaccepted honest refused)
    ],
  )
  unaccepted_first old middle new bytes conns d decisions left is_on moves rest unaccepted honest (inr (settled, last, how)) = inr (
    settled,
    record {
      place = suc last.place;
      accepted = last.accepted;
      made = (middle, is_on, moves, last.made);
      rest = last.rest;
      none = last.none;
    },
    how,
  )

  -- one connection at the front of a run
  left_first : (old middle new : B) (bytes : Text) (conns : List Text) (d : Decision) (decisions : List Decision) (left : Option World)
      → IsOn bytes d → Moves shelf old middle d → Serving shelf middle conns decisions new → shelf.honest new
      → LeavesRun shelf middle new conns decisions left → LeavesRun shelf old new (bytes ∷ conns) (d ∷ decisions) left
  left_first old middle new bytes conns d decisions left is_on moves rest honest behind = by_answer (cases_Bool (accepts d))
    where
      by_answer : (accepts d ≡ true) ⊎ (accepts d ≡ false) → LeavesRun shelf old new (bytes ∷ conns) (d ∷ decisions) left
      by_answer (inl took) =
          accepted_first old middle new bytes conns d decisions left is_on moves rest took
          (moved_durable old middle d moves took (served_honest shelf middle new conns decisions rest honest) left) behind
      by_answer (inr unaccepted) = unaccepted_first old middle new bytes conns d decisions left is_on moves rest unaccepted honest behind

  -- the rows that a crash may leave after a run
  pub run_left : (old new : B) (conns : List Text) (decisions : List Decision) → Serving shelf old conns decisions new → shelf.honest new
      → (left : Option World) → shelf.may_leave new left → LeavesRun shelf old new conns decisions left
  run_left old new [] [] h honest left may = inl (refl, inl (subst (λ (b : B). shelf.may_leave b left) h may))
  run_left old new [] (d ∷ decisions) h honest left may = absurd h
  run_left old new (bytes ∷ conns) [] h honest left may = absurd h
  run_left old new (bytes ∷ conns) (d ∷ decisions) (middle, is_on, moves, rest) honest left may =
      left_first old middle new bytes conns d decisions left is_on moves rest honest (run_left middle new conns decisions rest honest left may)

  -- no accepted command is lost
  pub nothing_lost : (old new : B) (conns : List Text) (decisions : List Decision) (left : Option World) → LeavesRun shelf old new conns decisions left
      → (place : ℕ) → IsAcceptedAt decisions place → ComesAfter shelf old new conns decisions place left
  nothing_lost old new conns decisions left (inl (none, how)) place accepted = absurd (both_ways _ none (some_accepted decisions place accepted))
  nothing_lost old new conns decisions left (inr (settled, last, how)) place accepted = record {
    kept = suc last.place;
    within = in_front (suc last.place) decisions place last.none accepted;
    settled = settled;
    served = last.made;
    leaves = how;
  }
