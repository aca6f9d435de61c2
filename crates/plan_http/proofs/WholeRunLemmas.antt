-- A run of connections, complete or not.
use Rattle.std.proofs.Common.{◌≡◌, ℕ, ◌+◌, ◌<◌, ◌≤◌, List, [], ◌∷◌, ◌++◌, map, length, take, drop, get_or, Result, Ok, Err, OnOk, OnErr, inl, inr, sym, ap, ◌∙◌, subst, arith}
use Rattle.std.proofs.lemmas.List.{take_more, length-map, take_at, drop_at, length_push}
use Rattle.plan_rows.specs.World.{Text}
use Rattle.plan_rows.specs.Views.{view}
use Rattle.plan_rows.specs.Books.{Shelf}
use Rattle.plan_http.specs.declared.runs.RunFault.{RunFault}
use Rattle.plan_http.specs.Answers.{Decision, IsOn}
use Rattle.plan_http.specs.Connections.{Moves, Serving, Stops, response_of}
use Rattle.plan_http.specs.Crashes.{Outlasts}
use Rattle.plan_http.specs.Stories.{AreTold}
use Rattle.plan_http.specs.Isolated.{IsApart}
use Rattle.plan_http.proofs.RunLemmas.{served_more}
use Rattle.plan_http.proofs.CrashLemmas.{run_made, run_left, run_counts, run_closes, nothing_lost}
use Rattle.plan_http.proofs.ApartLemmas.{told_alone, serving_unseen}
use Rattle.plan_http.proofs.HeadlineLemmas.{take_all, one_each, taken_length, ran_whole, ran_short, told_in_run}

module _ {B : Type 0} (shelf : Shelf B) where
  -- all decisions of a run: if memory ran out, one connection more than was answered may be decided
  record Decided (old new : B) (conns responses : List Text) : Type 0 where
    decisions : List Decision
    served : Serving shelf old (take (length decisions) conns) decisions new
    written : responses ≡ map response_of (take (length responses) decisions)
    last : length decisions ≤ length responses + 1

  -- one decision for each connection
  as_many : (old new : B) (conns : List Text) (decisions : List Decision) → Serving shelf old conns decisions new → length decisions ≡ length conns
  as_many old new conns decisions h = sym (length-map decisions response_of) ∙ one_each shelf old new conns decisions h

  -- responses of these decisions and no others
  written_all : (responses : List Text) (decisions : List Decision) → responses ≡ map response_of decisions → responses ≡ map response_of (take (length responses) decisions)
  written_all responses decisions are =
      let long : length responses ≡ length decisions = ap (λ (list : List Text). length list) are ∙ length-map decisions response_of in
      are ∙ ap (map response_of) (sym (ap (λ n. take n decisions) long ∙ take_all decisions))

  decided_front : (old new : B) (conns responses : List Text) (count : ℕ) (decisions : List Decision) → count ≤ length conns
      → Serving shelf old (take count conns) decisions new → responses ≡ map response_of decisions → Decided old new conns responses
  decided_front old new conns responses count decisions within served are =
      let many : length decisions ≡ count = as_many old new (take count conns) decisions served ∙ taken_length count conns within in
      let long : length responses ≡ length decisions = ap (λ (list : List Text). length list) are ∙ length-map decisions response_of in
      record {
        decisions = decisions;
        served = subst (λ (n : ℕ). Serving shelf old (take n conns) decisions new) (sym many) served;
        written = written_all responses decisions are;
        last = omega (arith, long);
      }

  decided_more : (old middle new : B) (conns responses : List Text) (count : ℕ) (decisions : List Decision) (d : Decision) → count < length conns
      → Serving shelf old (take count conns) decisions middle → IsOn (get_or conns count []) d → Moves shelf middle new d
      → responses ≡ map response_of decisions → Decided old new conns responses
  decided_more old middle new conns responses count decisions d below served is_on moves are =
      let within : count ≤ length conns = omega (arith, below) in
      let many : length decisions ≡ count = as_many old middle (take count conns) decisions served ∙ taken_length count conns within in
      let long : length responses ≡ length decisions = ap (λ (list : List Text). length list) are ∙ length-map decisions response_of in
      let all : length (decisions ++ d ∷ []) ≡ count + 1 = length_push decisions d ∙ ap (λ n. n + 1) many in
      let conns_are : take (count + 1) conns ≡ take count conns ++ get_or conns count [] ∷ [] = take_more conns count [] below in
      let front : take (length responses) (decisions ++ d ∷ []) ≡ decisions = front_is long in
      record {
        decisions = decisions ++ d ∷ [];
        served =
            subst (λ (n : ℕ). Serving shelf old (take n conns) (decisions ++ d ∷ []) new) (sym all)
            (subst (λ (list : List Text). Serving shelf old list (decisions ++ d ∷ []) new) (sym conns_are)
            (served_more shelf old middle new (take count conns) decisions (get_or conns count []) d served is_on moves));
        written = are ∙ ap (map response_of) (sym front);
        last = omega (arith, all, many, long);
      }
    where
      front_is : length responses ≡ length decisions → take (length responses) (decisions ++ d ∷ []) ≡ decisions
      front_is long = take_at decisions (d ∷ []) (length responses) (sym long)

  decided_short : (old new : B) (conns responses : List Text) (decisions : List Decision) (s : Stops shelf old new conns decisions)
      → responses ≡ map response_of decisions → Decided old new conns responses
  decided_short old new conns responses decisions s are = elim s.last [
    | inl same ↦ decided_front old new conns responses s.count decisions s.within (subst (λ (b : B). Serving shelf old (take s.count conns) decisions b) (sym same) s.served) are
    | inr more ↦ decided_more old s.middle new conns responses s.count decisions more.1.0 more.0 s.served more.1.1 more.1.2 are
  ]

  -- from the clauses of a run to the responses that it added
  grown : (out after responses : List Text) (count : ℕ) → count ≡ length out → after ≡ out ++ responses → drop count after ≡ responses
  grown out after responses count long are = ap (drop count) are ∙ drop_at out responses count (sym long)

  decided : (old new : B) (conns out after : List Text) (count : ℕ) (r : Result (Unit {0}) RunFault) → count ≡ length out
      → OnOk r ((decisions : List Decision) × Serving shelf old conns decisions new × (after ≡ out ++ map response_of decisions))
      → OnErr r ((decisions : List Decision) × Stops shelf old new conns decisions × (after ≡ out ++ map response_of decisions))
      → Decided old new conns (drop count after)
  decided old new conns out after count (Ok x) long ok err =
      decided_front old new conns (drop count after) (length conns) ok.0 (omega arith)
      (subst (λ (list : List Text). Serving shelf old list ok.0 new) (sym (take_all conns)) ok.1)
      (grown out after (map response_of ok.0) count long ok.2)
  decided old new conns out after count (Err e) long ok err =
      decided_short old new conns (drop count after) err.0 err.1 (grown out after (map response_of err.0) count long err.2)

  -- the rows that a crash may leave after a run
  pub outlasts : (old new : B) (conns out after : List Text) (count : ℕ) (r : Result (Unit {0}) RunFault) → count ≡ length out
      → OnOk r ((decisions : List Decision) × Serving shelf old conns decisions new × (after ≡ out ++ map response_of decisions))
      → OnErr r ((decisions : List Decision) × Stops shelf old new conns decisions × (after ≡ out ++ map response_of decisions))
      → Outlasts shelf old new conns (drop count after)
  outlasts old new conns out after count r long ok err =
      let d = decided old new conns out after count r long ok err in
      let served = take (length d.decisions) conns in
      record {
        decisions = d.decisions;
        served = d.served;
        written = d.written;
        last = d.last;
        made = λ honest. run_made shelf old new served d.decisions d.served honest;
        leaves = λ honest left may. run_left shelf old new served d.decisions d.served honest left may;
        kept = λ honest left may place accepted.
            nothing_lost shelf old new served d.decisions left (run_left shelf old new served d.decisions d.served honest left may) place accepted;
        counts = run_counts shelf old new served d.decisions d.served;
        closes = run_closes shelf old new served d.decisions d.served;
      }

  -- the responses to a desk in a run
  told_in_all : (old new : B) (conns out after : List Text) (count : ℕ) (r : Result (Unit {0}) RunFault) → count ≡ length out
      → OnOk r ((decisions : List Decision) × Serving shelf old conns decisions new × (after ≡ out ++ map response_of decisions))
      → OnErr r ((decisions : List Decision) × Stops shelf old new conns decisions × (after ≡ out ++ map response_of decisions))
      → shelf.honest new → (desk : Text) → AreTold desk (view desk (shelf.world old)) (take (length (drop count after)) conns) (drop count after)
  told_in_all old new conns out after count (Ok x) long ok err honest desk =
      told_in_run shelf old new conns (drop count after) desk
      (ran_whole shelf old new conns (drop count after) (ok.0, ok.1, grown out after (map response_of ok.0) count long ok.2)) honest
  told_in_all old new conns out after count (Err e) long ok err honest desk =
      told_in_run shelf old new conns (drop count after) desk
      (ran_short shelf old new conns (drop count after) (err.0, err.1, grown out after (map response_of err.0) count long err.2)) honest

  -- a desk in a run
  pub is_apart : (old new : B) (conns out after : List Text) (count : ℕ) (r : Result (Unit {0}) RunFault) → count ≡ length out
      → OnOk r ((decisions : List Decision) × Serving shelf old conns decisions new × (after ≡ out ++ map response_of decisions))
      → OnErr r ((decisions : List Decision) × Stops shelf old new conns decisions × (after ≡ out ++ map response_of decisions))
      → shelf.honest new → (desk : Text) → IsApart shelf old new conns (drop count after) desk
  is_apart old new conns out after count r long ok err honest desk =
      let d = decided old new conns out after count r long ok err in
      record {
        told = told_alone desk (shelf.world old) (take (length (drop count after)) conns) (drop count after) (told_in_all old new conns out after count r long ok err honest desk);
        decisions = d.decisions;
        unseen = serving_unseen shelf desk old new (take (length d.decisions) conns) d.decisions d.served honest;
        written = d.written;
        last = d.last;
      }
