-- From two runs of an office to the responses that a desk receives in them.
use Rattle.std.proofs.Common.{◌≡◌, ◌⊎◌, ℕ, zero, suc, ◌≤◌, List, [], ◌∷◌, ◌++◌, map, length, take, Result, Ok, Err, OnOk, OnErr, inl, inr, refl, sym, ap, ◌∙◌, subst, arith}
use Rattle.std.proofs.lemmas.List.{length-map}
use Rattle.plan_rows.specs.World.{Text, World}
use Rattle.plan_rows.specs.Views.{view, alone}
use Rattle.plan_desk.specs.Calls.{Request, Reply}
use Rattle.plan_desk.specs.Stories.{IsWant}
use Rattle.plan_desk.specs.Decisions.{IsStep, IsRealStep}
use Rattle.plan_rows.specs.Rules.{IsWorld}
use Rattle.plan_desk.specs.Laws.{AloneKeepsRules}
use Rattle.plan_rows.specs.Books.{Shelf}
use Rattle.plan_desk.specs.BookSteps.{Handled}
use Rattle.plan_desk.proofs.AloneLemmas.{alone_keeps_rules}
use Rattle.plan_http.specs.declared.runs.RunFault.{RunFault}
use Rattle.plan_http.specs.Answers.{Decision, answered, failed, starved}
use Rattle.plan_http.specs.Connections.{Moves, Serving, Stops, IsRunOf, response_of}
use Rattle.plan_http.specs.Served.{IsMove, AreServed}
use Rattle.plan_http.specs.Stories.{AreTold}
use Rattle.plan_http.specs.Headline.{answered_of, ApartRunsAreAlike}
use Rattle.plan_http.proofs.StoryLemmas.{connections_are_apart, connections_are_told_alike, requests_are_told_alike}

module _ {B : Type 0} (shelf : Shelf B) where
  -- a disk that has returned what was written, returned it before
  pub moved_honest : (old new : B) (d : Decision) → Moves shelf old new d → shelf.honest new → shelf.honest old
  moved_honest old new (answered r reply) h honest = h.honesty honest
  moved_honest old new (failed check allow is_head) h honest = subst shelf.honest h honest
  moved_honest old new starved h honest = subst shelf.honest h honest

  pub served_honest : (old new : B) (conns : List Text) (decisions : List Decision) → Serving shelf old conns decisions new → shelf.honest new → shelf.honest old
  served_honest old new [] [] h honest = subst shelf.honest h honest
  served_honest old new [] (d ∷ decisions) h honest = absurd h
  served_honest old new (bytes ∷ conns) [] h honest = absurd h
  served_honest old new (bytes ∷ conns) (d ∷ decisions) (middle, is_on, moves, rest) honest =
      moved_honest old middle d moves (served_honest middle new conns decisions rest honest)

  -- the book has these rows, if its tables are readable
  abbrev Follows : B → World → Type 0
  Follows book w = shelf.stands book → shelf.world book ≡ w

  -- the rows that follow a decision
  record Follow (old new : B) (w : World) (d : Decision) : Type 0 where
    after : World
    move : IsMove w d after
    follows : Follows new after

  follow_handled : (old new : B) (w : World) (r : Request) (reply : Reply) → Follows old w → Handled shelf old new r reply → shelf.honest new
      → (shelf.stands new × IsStep (shelf.world old) r reply (shelf.world new)) ⊎ (IsWant reply × (shelf.stands new → shelf.world new ≡ shelf.world old))
      → Follow old new w (answered r reply)
  unfolding IsRealStep IsStep
  follow_handled old new w r reply follows h honest (inl (stands, step)) =
      let same : shelf.world old ≡ w = follows (h.stood honest stands) in
      record {
        after = shelf.world new;
        move = inl (subst (λ (u : World). IsStep u r reply (shelf.world new)) same step);
        follows = λ s. refl;
      }
  follow_handled old new w r reply follows h honest (inr (want, still)) = record {
    after = w;
    move = inr (want, refl);
    follows = λ stands. still stands ∙ follows (h.stood honest stands);
  }

  follow : (old new : B) (w : World) (d : Decision) → Follows old w → Moves shelf old new d → shelf.honest new → Follow old new w d
  follow old new w (answered r reply) follows h honest = follow_handled old new w r reply follows h honest (h.step honest)
  follow old new w (failed check allow is_head) follows same honest = record {
    after = w;
    move = refl;
    follows = subst (λ (b : B). Follows b w) (sym same) follows;
  }
  follow old new w starved follows same honest = record {
    after = w;
    move = refl;
    follows = subst (λ (b : B). Follows b w) (sym same) follows;
  }

  -- a run over a book is one of rows
  served_from : (old new : B) (w : World) (conns : List Text) (decisions : List Decision) → Follows old w → Serving shelf old conns decisions new
      → shelf.honest new → (after : World) × AreServed w conns decisions after
  served_from old new w [] [] follows h honest = (w, refl)
  served_from old new w [] (d ∷ decisions) follows h honest = absurd h
  served_from old new w (bytes ∷ conns) [] follows h honest = absurd h
  served_from old new w (bytes ∷ conns) (d ∷ decisions) follows (middle, is_on, moves, rest) honest =
      let next = follow old middle w d follows moves (served_honest middle new conns decisions rest honest) in
      let behind = served_from middle new next.after conns decisions next.follows rest honest in
      (behind.0, (next.after, is_on, next.move, behind.1))

  -- the facts about a run at its end, complete or not
  pub record Ran (old new : B) (conns responses : List Text) : Type 0 where
    pub count : ℕ
    pub within : count ≤ length conns
    pub decisions : List Decision
    pub last : B
    pub served : Serving shelf old (take count conns) decisions last
    pub honesty : shelf.honest new → shelf.honest last
    pub responses_are : responses ≡ map response_of decisions

-- the front of a list with its whole length is the list
pub take_all : {A : Type 0} (xs : List A) → take (length xs) xs ≡ xs
take_all [] = refl
take_all (x ∷ xs) = ap (λ list. x ∷ list) (take_all xs)

-- one decision for each connection
pub one_each : {B : Type 0} (shelf : Shelf B) (old new : B) (conns : List Text) (decisions : List Decision) → Serving shelf old conns decisions new
    → length (map response_of decisions) ≡ length conns
one_each shelf old new [] [] h = refl
one_each shelf old new [] (d ∷ decisions) h = absurd h
one_each shelf old new (bytes ∷ conns) [] h = absurd h
one_each shelf old new (bytes ∷ conns) (d ∷ decisions) (middle, is_on, moves, rest) = ap suc (one_each shelf middle new conns decisions rest)

pub taken_length : {A : Type 0} (n : ℕ) (xs : List A) → n ≤ length xs → length (take n xs) ≡ n
taken_length zero xs within = refl
taken_length (suc n) [] within = absurd (omega (arith, within))
taken_length (suc n) (x ∷ xs) within = ap suc (taken_length n xs (omega (arith, within)))

-- a run that ended whole
pub ran_whole : {B : Type 0} (shelf : Shelf B) (old new : B) (conns responses : List Text)
    → ((decisions : List Decision) × Serving shelf old conns decisions new × (responses ≡ [] ++ map response_of decisions)) → Ran shelf old new conns responses
ran_whole shelf old new conns responses (decisions, serving, are) = record {
  count = length conns;
  within = omega arith;
  decisions = decisions;
  last = new;
  served = subst (λ (list : List Text). Serving shelf old list decisions new) (sym (take_all conns)) serving;
  honesty = λ honest. honest;
  responses_are = are;
}

stopped_honest : {B : Type 0} (shelf : Shelf B) (old new : B) (conns : List Text) (decisions : List Decision) (s : Stops shelf old new conns decisions)
    → shelf.honest new → shelf.honest s.middle
stopped_honest shelf old new conns decisions s honest = elim s.last [
  | inl same ↦ subst shelf.honest same honest
  | inr more ↦ moved_honest shelf s.middle new more.1.0 more.1.2 honest
]

-- a run that stopped because memory ran out
pub ran_short : {B : Type 0} (shelf : Shelf B) (old new : B) (conns responses : List Text)
    → ((decisions : List Decision) × Stops shelf old new conns decisions × (responses ≡ [] ++ map response_of decisions)) → Ran shelf old new conns responses
ran_short shelf old new conns responses (decisions, stops, are) = record {
  count = stops.count;
  within = stops.within;
  decisions = decisions;
  last = stops.middle;
  served = stops.served;
  honesty = stopped_honest shelf old new conns decisions stops;
  responses_are = are;
}

-- the responses to a desk in a run
pub told_in_run : {B : Type 0} (shelf : Shelf B) (old new : B) (conns responses : List Text) (desk : Text) → Ran shelf old new conns responses → shelf.honest new
    → AreTold desk (view desk (shelf.world old)) (answered_of conns responses) responses
told_in_run shelf old new conns responses desk ran honest =
    let served = served_from shelf old ran.last (shelf.world old) (take ran.count conns) ran.decisions (λ s. refl) ran.served (ran.honesty honest) in
    let told : AreTold desk (view desk (shelf.world old)) (take ran.count conns) (map response_of ran.decisions) =
    connections_are_apart desk (shelf.world old) (take ran.count conns) ran.decisions served.0 served.1 in
    let long : length responses ≡ ran.count =
    ap (λ (list : List Text). length list) ran.responses_are ∙ one_each shelf old ran.last (take ran.count conns) ran.decisions ran.served ∙ taken_length ran.count conns ran.within in
    subst (λ (n : ℕ). AreTold desk (view desk (shelf.world old)) (take n conns) responses) (sym long)
    (subst (λ (list : List Text). AreTold desk (view desk (shelf.world old)) (take ran.count conns) list) (sym ran.responses_are) told)

-- the rows of one desk alone keep the rules of rows
pub alone_good : (desk : Text) (w : World) → IsWorld w → IsWorld (alone (view desk w))
unfolding AloneKeepsRules
alone_good desk w good = alone_keeps_rules desk w good

-- two runs
pub apart_runs_are_alike : {A B : Type 0} (first : Shelf A) (second : Shelf B) → ApartRunsAreAlike first second
unfolding ApartRunsAreAlike
apart_runs_are_alike first second = λ a left b right conns responses others answers desk apart also good fine agree. record {
  first_told = apart.told;
  second_told = also.told;
  equal = λ story told given h k.
      connections_are_told_alike desk (view desk (first.world a)) (view desk (second.world b)) (answered_of conns responses) responses (answered_of others answers) answers
      story told given (alone_good desk (first.world a) good) (alone_good desk (second.world b) fine) agree h k;
  alike = λ story tale told given same h k.
      requests_are_told_alike desk (view desk (first.world a)) (view desk (second.world b)) (answered_of conns responses) responses (answered_of others answers) answers
      story tale told given (alone_good desk (first.world a) good) (alone_good desk (second.world b) fine) agree same h k;
}

-- the result of a run into an empty list
pub run_of : {B : Type 0} (shelf : Shelf B) (old new : B) (conns out responses : List Text) (r : Result (Unit {0}) RunFault) → out ≡ []
    → OnOk r ((decisions : List Decision) × Serving shelf old conns decisions new × (responses ≡ out ++ map response_of decisions))
    → OnErr r ((decisions : List Decision) × Stops shelf old new conns decisions × (responses ≡ out ++ map response_of decisions))
    → IsRunOf shelf old new conns responses r
run_of shelf old new conns out responses (Ok x) none ok err =
    subst (λ (list : List Text). (decisions : List Decision) × Serving shelf old conns decisions new × (responses ≡ list ++ map response_of decisions)) none ok
run_of shelf old new conns out responses (Err e) none ok err =
    subst (λ (list : List Text). (decisions : List Decision) × Stops shelf old new conns decisions × (responses ≡ list ++ map response_of decisions)) none err

-- a run without a fault has as many responses as connections
pub as_many : {B : Type 0} (shelf : Shelf B) (old new : B) (conns responses : List Text) (r : Result (Unit {0}) RunFault) → IsRunOf shelf old new conns responses r
    → OnOk r (length responses ≡ length conns)
as_many shelf old new conns responses (Ok x) (decisions, serving, are) = ap (λ (list : List Text). length list) are ∙ one_each shelf old new conns decisions serving
as_many shelf old new conns responses (Err e) run = tt

-- lists are as long as their mapped lists
pub unmapped : {A B E : Type 0} (f : A → B) (xs ys : List A) (r : Result (Unit {0}) E) → OnOk r (length (map f xs) ≡ length (map f ys)) → OnOk r (length xs ≡ length ys)
unmapped f xs ys (Ok x) same = sym (length-map xs f) ∙ same ∙ length-map ys f
unmapped f xs ys (Err e) same = tt
