-- The effect of a call that reads on a connection.
use Rattle.std.proofs.Common.{◌≡◌, ◌⊎◌, inl, inr, ℕ, false, List, Ok, Err, Result, IfOk, IsTrue, refl, sym, ap, subst, ◌∙◌}
use Rattle.std.specs.Prelude.{IfErr}
use Rattle.sqlite_value.specs.Order.{Row}
use Rattle.sqlite_trees.specs.Tree.{Trees}
use Rattle.sqlite.specs.declared.error.Error.{Error}
use Rattle.sqlite.specs.Listing.{understood, reads_listing}
use Rattle.sqlite.specs.Effect.{Database, Reads}
use Rattle.sqlite.specs.State.{State, HasCleanDisk, Survives, IsUnchanged, IsRolledBack, IsNotRun, FailsToQuery, Shown, CommitsShowing}
use Rattle.sqlite.proofs.Callers.{IsPlain, reads_as, never_commits}
use Rattle.plan_rows.specs.declared.fault.BookFault.{BookFault}
use Rattle.plan_store.specs.Stores.{IsStore}
use Rattle.plan_store.specs.Endurance.{Endures}
use Rattle.plan_store.specs.QueryEffect.{meaning_under, IsAtRest, Queries}
use Rattle.plan_store.specs.BookCalls.{Stands, IsReady, Asks}
use Rattle.plan_store.proofs.EnduringLemmas.{endures_then}

-- the connection after a statement that reads or that failed
abbrev pub Rests : State → State → Type 0
Rests old new = IsUnchanged old new ⊎ IsRolledBack old new

pub if_ok : {X E : Type 0} {P Q : X → Type 0} (r : Result X E) → ((x : X) → P x → Q x) → IfOk r P → IfOk r Q
if_ok (Ok x) f h = f x h
if_ok (Err e) f h = tt

module _ (old new : State) (rest : IsAtRest old) (honesty : HasCleanDisk new → HasCleanDisk old) (rests : HasCleanDisk new → Rests old new) where
  stays : HasCleanDisk new → IsTrue new.is_open → IsTrue old.is_open × (new.now ≡ old.now) × (new.committed ≡ old.committed)
  stays clean live = elim (rests clean) [
    | inl same ↦ (same.0.was_open, same.0.now_is, same.0.committed_is)
    | inr undone ↦
        let was = undone.was_open live in
        let back = undone.undone live in
        (was, back.0 ∙ sym (rest.settled (honesty clean) was), back.1)
  ]

  at_rest : new.in_transaction ≡ false → IsAtRest new
  at_rest outside = record {
    outside = outside;
    settled = λ clean live. let same = stays clean live in same.1 ∙ rest.settled (honesty clean) same.0 ∙ sym same.2;
  }

  pub queries : {X : Type 0} (r : Result X BookFault) (Is : X → Type 0) → new.in_transaction ≡ false
      → IfOk r (λ x. HasCleanDisk new → IsTrue new.is_open × Is x) → (HasCleanDisk new → (trees : Trees) → new.may_leave trees → old.may_leave trees) → Endures old new → Queries old new r Is
  queries r Is outside answer crash endures = record {
    rest = at_rest outside;
    honesty = honesty;
    same = λ clean live. let it = stays clean live in (it.0, it.1);
    answer = answer;
    crash = crash;
    endures = endures;
  }

-- the same for an equal result
pub queries_as : (old new : State) {X : Type 0} (r q : Result X BookFault) (Is : X → Type 0) → q ≡ r → Queries old new r Is → Queries old new q Is
queries_as old new r q Is same it = subst (λ k. Queries old new k Is) (sym same) it

-- a fact about a result that is known
pub was_if_ok : {X E : Type 0} (P : X → Type 0) (r : Result X E) (x : X) → r ≡ Ok x → IfOk r P → P x
was_if_ok P r x is h = subst (λ k. IfOk k P) is h

pub was_if_err : {X E : Type 0} (P : E → Type 0) (r : Result X E) (e : E) → r ≡ Err e → IfErr r P → P e
was_if_err P r e is h = subst (λ k. IfErr k P) is h

-- two queries, one after another
pub queries_then : (a b c : State) {X Y Z : Type 0} (r : Result X BookFault) (Is : X → Type 0) (q : Result Y BookFault) (Other : Y → Type 0) (out : Result Z BookFault) (Last : Z → Type 0)
    → Queries a b r Is → Queries b c q Other → IfOk out (λ z. HasCleanDisk c → IsTrue c.is_open × Last z) → Queries a c out Last
queries_then a b c r Is q Other out Last one two answer = record {
  rest = two.rest;
  honesty = λ clean. one.honesty (two.honesty clean);
  same = λ clean live.
      let late = two.same clean live in
      let early = one.same (two.honesty clean) late.0 in
      (early.0, late.1 ∙ early.1);
  answer = answer;
  crash = λ clean trees may. one.crash (two.honesty clean) trees (two.crash clean trees may);
  endures = endures_then a b c two.honesty one.endures two.endures;
}

-- a ready store is at rest
pub rest_of : (s : State) → IsReady s → IsAtRest s
rest_of s ready = record { outside = ready.outside; settled = λ clean live. (ready.stands clean live).settled }

-- a query of a store
pub asks_from : (old new : State) → IsReady old → {X : Type 0} (r : Result X BookFault) (Is Other : X → Type 0) → ((x : X) → Stands old → Is x → Other x) → Queries old new r Is → Asks old new r Other
asks_from old new ready r Is Other f it = record {
  ready = record {
    outside = it.rest.outside;
    stands = λ clean live.
        let same = it.same clean live in
        let was = ready.stands (it.honesty clean) same.0 in
        record { is_open = live; outside = it.rest.outside; settled = it.rest.settled clean live; store = subst IsStore (sym same.1) was.store };
  };
  honesty = it.honesty;
  same = it.same;
  answer = if_ok r (λ x h clean.
      let live = (it.same clean (h clean).0).0 in
      ((h clean).0, f x (ready.stands (it.honesty clean) live) (h clean).1)) it.answer;
  crash = it.crash;
  endures = it.endures;
}

-- a fact about a result, from another one
pub asks_again : (old new : State) {X Y : Type 0} (r : Result X BookFault) (Is : X → Type 0) (q : Result Y BookFault) (Other : Y → Type 0) → Asks old new r Is
    → IfOk q (λ y. HasCleanDisk new → IsTrue new.is_open × Other y) → Asks old new q Other
asks_again old new r Is q Other it answer = record { ready = it.ready; honesty = it.honesty; same = it.same; answer = answer; crash = it.crash; endures = it.endures }

-- two calls that read, one after another
pub asks_then : (a b c : State) {X Y Z : Type 0} (r : Result X BookFault) (Is : X → Type 0) (q : Result Y BookFault) (Other : Y → Type 0) (out : Result Z BookFault) (Last : Z → Type 0)
    → Asks a b r Is → Asks b c q Other → IfOk out (λ z. HasCleanDisk c → IsTrue c.is_open × Last z) → Asks a c out Last
asks_then a b c r Is q Other out Last one two answer = record {
  ready = two.ready;
  honesty = λ clean. one.honesty (two.honesty clean);
  same = λ clean live.
      let late = two.same clean live in
      let early = one.same (two.honesty clean) late.0 in
      (early.0, late.1 ∙ early.1);
  answer = answer;
  crash = λ clean trees may. one.crash (two.honesty clean) trees (two.crash clean trees may);
  endures = endures_then a b c two.honesty one.endures two.endures;
}

-- ---- a query

module _ (sql : List ℕ) (params : Row) (old new : State) (plain : IsPlain (understood old.now.schema sql)) where
  -- a query that failed
  pub query_failed : (e : Error) → FailsToQuery sql params old new e → Rests old new
  unfolding FailsToQuery IsNotRun
  query_failed e (inl (inl refused)) = inl refused.1
  query_failed e (inl (inr failed)) = inr failed.3
  query_failed e (inr h) =
      let none = (subst IsPlain h.1.is plain).0 in
      inl (rw none at h.2).3

  pub query_shown : (rows : List Row) → Shown sql params old new rows → IsUnchanged old new
  unfolding Shown
  query_shown rows h =
      let none = (subst IsPlain h.1.is plain).0 in
      (rw none at h.2).3

  pub query_commits_nothing : (trees : Trees) → CommitsShowing sql params old trees → ⊥
  query_commits_nothing trees = never_commits sql params old trees plain

pub not_run_rests : (sql : List ℕ) (params : Row) (old new : State) (e : Error) → IsNotRun old new sql params e → Rests old new
unfolding IsNotRun
not_run_rests sql params old new e (inl refused) = inl refused.1
not_run_rests sql params old new e (inr failed) = inr failed.3

-- a crash leaves nothing new
pub nothing_new : (old new : State) → Survives old new (λ _. ⊥) → HasCleanDisk new → (trees : Trees) → new.may_leave trees → old.may_leave trees
nothing_new old new survives clean trees may = elim (survives.crash clean trees may) [ inl before ↦ before | inr none ↦ absurd none ]

-- the rows that are shown are those that the text reads from the tables as they were
pub read_from : (sql text : List ℕ) (params : Row) (old mid new : State) → sql ≡ text → mid.now ≡ old.now → IsPlain (understood old.now.schema text)
    → reads_listing old.now.schema text ≡ false → (rows : List Row) → Shown sql params mid new rows → Reads (meaning_under old.now.schema text) old.now params rows
read_from sql text params old mid new is same plain ours rows h =
    subst (λ (d : Database). Reads (meaning_under old.now.schema text) d params rows) same
    (reads_as text params mid new old.now.schema (ap (λ (d : Database). d.schema) same) (meaning_under old.now.schema text) refl plain ours rows (subst (λ t. Shown t params mid new rows) is h))

-- an equal fact about a result
pub asks_map : (old new : State) → IsReady old → {X : Type 0} (r : Result X BookFault) (Is Other : X → Type 0) → ((x : X) → Stands old → Is x → Other x) → Asks old new r Is → Asks old new r Other
asks_map old new ready r Is Other f it = asks_again old new r Is r Other it (if_ok r (λ x h clean.
    let live = (it.same clean (h clean).0).0 in
    ((h clean).0, f x (ready.stands (it.honesty clean) live) (h clean).1)) it.answer)
