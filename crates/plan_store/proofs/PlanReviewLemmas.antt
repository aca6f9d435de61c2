-- Plans that are tested as their rows are read: one row more, the end of an answer, and a whole
-- table.
use Rattle.std.proofs.Common.{◌≡◌, inl, inr, ℕ, pos, Bool, true, false, List, [], ◌∷◌, ◌++◌, Option, Some, None, IsTrue, Result, Ok, Err, IfOk, codes, refl, sym, ap, ap₂, subst, subst₂, ◌∙◌, arith}
use Rattle.std.specs.Bool.{MatchBool}
use Rattle.std.specs.List.{AllZip}
use Rattle.std.proofs.lemmas.List.Elements.{Contains-append_left, Contains-push}
use Rattle.sqlite_value.specs.declared.value.Value.TheVariants.{Int}
use Rattle.sqlite_value.specs.Order.{Row}
use Rattle.sqlite_trees.specs.declared.store.Store.{Ghosts}
use Rattle.sqlite_schema.specs.declared.command.Command.TheVariants.{Select}
use Rattle.sqlite.specs.Effect.{Database, Reads}
use Rattle.sqlite.specs.State.{State, HasCleanDisk, IsUnchanged, IsRolledBack, IsStatement, Survives, CommitsShowing, FailsToQuery}
use Rattle.sqlite.specs.declared.error.Error.{Error}
use Rattle.sqlite_resolve.specs.declared.compiled.Compiled.{Compiled}
use Rattle.sqlite.specs.Clock.{timed}
use Rattle.sqlite.specs.Listing.{reads_listing, IsSourceOf}
use Rattle.sqlite.specs.Given.{HasGiven, HasBegun, Advances}
use Rattle.sqlite.specs.Held.{Held, state}
use Rattle.sqlite.proofs.Callers.{EndsIn, command_of, given_begin, begun_plain, begins_shown, reads_as, never_commits}
use Rattle.sqlite_trees.specs.Tree.{Trees}
use Rattle.plan_rows.specs.declared.fault.BookFault.{BookFault}
use Rattle.plan_rows.specs.World.{Plan}
use Rattle.plan_rows.specs.Rules.{IsPlanRow}
use Rattle.plan_store.specs.declared.layout.Layout.{Layout}
use Rattle.plan_store.specs.declared.plan_test.PlanTest.{PlanTest}
use Rattle.plan_store.specs.declared.plan_review.Next.{Next}
use Rattle.plan_store.specs.declared.plan_review.Next.TheVariants.{Good, Bad, End}
use Rattle.plan_store.specs.Rows.{written_plan, read_plan}
use Rattle.plan_store.specs.UntrustedRows.{HoldsPlan, TakesRow}
use Rattle.plan_store.specs.Endurance.{Endures}
use Rattle.plan_store.proofs.EnduringLemmas.{endures_then, endures_by}
use Rattle.plan_store.specs.QueryEffect.{meaning_under, IsQueryUnder, IsAtRest, Queries}
use Rattle.plan_store.specs.PlanReview.{HasSeen, TakesGood, ReviewsRow, ComesNext, Stays, Leaves, Goes, Reviews, ReviewsRows, ReviewsRest, ReviewsPlans}
use Rattle.plan_store.proofs.CodecLemmas.{plan_back}
use Rattle.plan_store.specs.Layouts.{schema_of}
use Rattle.plan_store.specs.TableTests.{IsLaid}
use Rattle.plan_store.proofs.QueryEffectLemmas.{read_from, queries, query_failed}
use Rattle.plan_store.proofs.QueryForms.{alone}
use Rattle.plan_store.proofs.TableMeanings.{plans_text, plans_query, plans_is, plans_asks}
use Rattle.plan_store.proofs.LaidLemmas.{plans_good, plan_bad}

-- ---- a row

-- two plans with the same written row are equal
one_written : (a b : Plan) (row : Row) → row ≡ written_plan a → row ≡ written_plan b → a ≡ b
one_written a b row p q = sym (plan_back a (pos 0)) ∙ ap (λ (r : Row). read_plan (Int (pos 0) ∷ r)) (sym p ∙ q) ∙ plan_back b (pos 0)

-- a row that isn't a plan that code can hold
pub none_told : (row : Row) → TakesRow written_plan HoldsPlan row None → TakesGood row None
none_told row none = λ a good is. none a good.0 is

-- a row that is a plan, which was tested
pub one_told : (row : Row) (plan : Plan) (plans : List Plan) (review : PlanTest) (good : Bool) → TakesRow written_plan HoldsPlan row (Some plan)
    → MatchBool good (IsPlanRow plan × HasSeen (plans ++ plan ∷ []) review) (IsPlanRow plan → ⊥) → ReviewsRow row plans review good
one_told row plan plans review true takes h = (plan, (takes.0, (takes.1, h.0)), h.1)
one_told row plan plans review false takes bad = λ a good is. bad (subst IsPlanRow (one_written a plan row is takes.0) good.1)

-- ---- states

pub stays_itself : (s : State) → Stays s s
stays_itself s live = (live, refl, refl)

pub unchanged_stays : (a b : State) → IsUnchanged a b → Stays a b
unchanged_stays a b same live = (same.0.was_open, same.0.now_is, same.0.committed_is)

pub stays_then : (a b c : State) → Stays a b → Stays b c → Stays a c
stays_then a b c one two live =
    let late = two live in
    let early = one late.0 in
    (early.0, late.1 ∙ early.1, late.2 ∙ early.2)

pub stays_leaves : (a b : State) → Stays a b → Leaves a b
stays_leaves a b it live = let was = it live in (was.0, inl was.1, was.2)

pub undone_leaves : (a b : State) → IsRolledBack a b → Leaves a b
undone_leaves a b undone live = let it = undone.undone live in (undone.was_open live, inr it.0, it.1)

-- the effect of a call on a connection that an earlier call left unchanged
pub leaves_then : (a b c : State) → Stays a b → Leaves b c → Leaves a c
leaves_then a b c one two live =
    let late = two live in
    let early = one late.0 in
    (early.0, elim late.1 [ inl still ↦ inl (still ∙ early.1) | inr back ↦ inr (back ∙ early.2) ], late.2 ∙ early.2)

module _ (old new : State) (rest : IsAtRest old) (honesty : HasCleanDisk new → HasCleanDisk old) (leaves : HasCleanDisk new → Leaves old new) where
  stayed : HasCleanDisk new → IsTrue new.is_open → IsTrue old.is_open × (new.now ≡ old.now) × (new.committed ≡ old.committed)
  stayed clean live =
      let it = leaves clean live in
      (it.0, elim it.1 [ inl still ↦ still | inr back ↦ back ∙ sym (rest.settled (honesty clean) it.0) ], it.2)

  -- rows that were read one at a time
  pub queries_by : {X : Type 0} (r : Result X BookFault) (Is : X → Type 0) → new.in_transaction ≡ false → IfOk r (λ x. HasCleanDisk new → IsTrue new.is_open × Is x)
      → (HasCleanDisk new → (trees : Trees) → new.may_leave trees → old.may_leave trees) → Endures old new → Queries old new r Is
  queries_by r Is outside answer crash endures = record {
    rest = record {
      outside = outside;
      settled = λ clean live. let same = stayed clean live in same.1 ∙ rest.settled (honesty clean) same.0 ∙ sym same.2;
    };
    honesty = honesty;
    same = λ clean live. let it = stayed clean live in (it.0, it.1);
    answer = answer;
    crash = crash;
    endures = endures;
  }

-- ---- the rows so far

module _ {S : Type 0} (g : Ghosts S) (first : Held S) where
  -- The rows that were given, from any text that was at its start, are those of plans that were
  -- tested.
  abbrev pub HasGone : Held S → PlanTest → Type 0
  HasGone now review =
      (text : List ℕ) → HasGiven g text [] first []
      → (rows : List Row) × (plans : List Plan) × HasGiven g text [] now rows × AllZip (λ row plan. TakesGood row (Some plan)) rows plans × HasSeen plans review

  zip_push : (rows : List Row) (plans : List Plan) (row : Row) (plan : Plan) →
      AllZip (λ r p. TakesGood r (Some p)) rows plans → TakesGood row (Some plan) →
      AllZip (λ r p. TakesGood r (Some p)) (rows ++ row ∷ []) (plans ++ plan ∷ [])
  zip_push [] [] row plan zip takes = (takes, tt)
  zip_push [] (p ∷ plans) row plan zip takes = absurd zip
  zip_push (r ∷ rows) [] row plan zip takes = absurd zip
  zip_push (r ∷ rows) (p ∷ plans) row plan zip takes = (zip.0, zip_push rows plans row plan zip.1 takes)

  pub gone_none : (review : PlanTest) → HasSeen [] review → HasGone first review
  gone_none review fresh = λ text given. ([], [], given, tt, fresh)

  module _ (old new : Held S) (before after : PlanTest) (gone : HasGone old before) where
    -- one plan more
    pub gone_more : Reviews g old new before after Good → HasGone new after
    gone_more told = λ text given.
        let it = gone text given in
        let next = told text [] it.0 it.1 it.2 it.4 in
        (it.0 ++ next.0 ∷ [], it.1 ++ next.1 ∷ [], next.2, zip_push it.0 it.1 next.0 next.1 it.3 next.3, next.4)

    -- a row that isn't a good plan
    pub gone_bad : Reviews g old new before after Bad → ReviewsRest g first new after false
    gone_bad told = λ text query given.
        let it = gone text given in
        let next = told text [] it.0 it.1 it.2 it.4 in
        (it.0, next.0, given_begin g text [] new (it.0 ++ next.0 ∷ []) next.1, next.2)

    -- the end of the answer
    pub gone_all : (state g old).now ≡ (state g first).now → Reviews g old new before after End → ReviewsRest g first new after true
    gone_all same told = λ text query given.
        let it = gone text given in
        let next = told text [] it.0 it.1 it.2 it.4 in
        (it.0, it.1, read_from text text [] (state g first) (state g old) (state g new) refl same query.plain query.ours it.0 next.0, it.3, next.1)

-- ---- the next plan

module _ {S : Type 0} (g : Ghosts S) (old new : Held S) (before after : PlanTest) where
  pub goes_next : (row : Option Row) → Advances g old new row → (next : Next) → ((plans : List Plan) → HasSeen plans before → ComesNext row plans after next) → Reviews g old new before after next
  goes_next None on next comes = λ text params given plans has reviewed.
      let it = comes plans reviewed in
      subst (Goes g text params old new given plans after) (sym it.0) (on text params given has, it.1)
  goes_next (Some row) on Good comes = λ text params given plans has reviewed.
      let it = comes plans reviewed in
      (row, it.0, on text params given has, it.1, it.2)
  goes_next (Some row) on Bad comes = λ text params given plans has reviewed. (row, on text params given has, comes plans reviewed)
  goes_next (Some row) on End comes = λ text params given plans has reviewed. absurd (comes plans reviewed)

-- after a good plan some plans were tested
pub good_reviewed : (row : Option Row) (plans : List Plan) (review : PlanTest) (r : Result Next BookFault) →
    IfOk r (ComesNext row plans review) → r ≡ Ok Good → (all : List Plan) × HasSeen all review
good_reviewed row plans review r told is = by_row row (subst (λ k. IfOk k (ComesNext row plans review)) is told)
  where
    by_row : (o : Option Row) → ComesNext o plans review Good → (all : List Plan) × HasSeen all review
    by_row None it = (plans, it.1)
    by_row (Some r) it = (plans ++ it.0 ∷ [], it.2)

-- ---- a table

unchanged_itself : (s : State) → IsTrue s.is_open → IsUnchanged s s
unchanged_itself s live = (record { was_open = live; is_open = live; now_is = refl; committed_is = refl; mode = refl }, record { changes = refl; last_rowid = refl }, refl)

abbrev plans_names : List (List ℕ)
plans_names = codes "desk" ∷ codes "n" ∷ codes "kind" ∷ codes "name" ∷ codes "body" ∷ codes "start" ∷ codes "days" ∷ []

module _ (layout : Layout) (old : State) (laid : IsLaid layout old) (new : State) (text : List ℕ) (is : text ≡ plans_text) (live : IsTrue new.is_open) (same : new.now ≡ old.now) where
  schema_is : new.now.schema ≡ schema_of layout
  schema_is = ap (λ (d : Database). d.schema) same ∙ laid.schema

  asks : IsQueryUnder new.now.schema text
  asks = subst₂ IsQueryUnder (sym schema_is) (sym is) (plans_asks layout)

  means : meaning_under new.now.schema text ≡ Select (alone plans_query) plans_names
  means = ap₂ meaning_under schema_is is ∙ plans_is layout

  -- the query has no recursion, so that each of its answers that has begun has an end
  ends : (c : Compiled) (db : Database) (it : IsStatement new text [] c) → IsSourceOf (reads_listing new.now.schema text) new.now db → EndsIn c.command db (timed [] c.formats it.now)
  ends c db it source = subst (λ k. EndsIn k db (timed [] c.formats it.now)) (sym (ap command_of (sym it.is) ∙ means)) tt

  of_old : (rows : List Row) → Reads (meaning_under new.now.schema text) new.now [] rows → Reads (meaning_under (schema_of layout) plans_text) old.now [] rows
  of_old rows reads = subst (λ (d : Database). Reads (meaning_under (schema_of layout) plans_text) d [] rows) same (subst₂ (λ s t. Reads (meaning_under s t) new.now [] rows) schema_is is reads)

  pub plans_told : (db : Database) → db ≡ new.now → (review : PlanTest) (good : Bool) → ReviewsRows text db new review good → ReviewsPlans (old.now.trees 5) review good
  plans_told db whole review true (rows, plans, reads, zip, reviewed) =
      (plans, plans_good layout old laid plans rows (of_old rows (subst (λ (d : Database). Reads (meaning_under d.schema text) d [] rows) whole reads)) zip, reviewed)
  plans_told db whole review false (rows, row, begins, none) =
      let more = begins_shown text [] new new (rows ++ row ∷ []) begins (unchanged_itself new live) ends in
      let all = (rows ++ row ∷ []) ++ more.0 in
      let reads = reads_as text [] new new new.now.schema refl (meaning_under new.now.schema text) refl asks.plain asks.ours all more.1 in
      plan_bad layout old laid all row (of_old all reads) (Contains-append_left (rows ++ row ∷ []) more.0 row (Contains-push rows row)) none

-- the result of a test after any plans
pub if_all_ok : (r : Result Next BookFault) (row : Option Row) (before after : PlanTest) → ((plans : List Plan) → HasSeen plans before → IfOk r (ComesNext row plans after)) → {P : Next → Type 0}
    → ((next : Next) → ((plans : List Plan) → HasSeen plans before → ComesNext row plans after next) → P next) → IfOk r P
if_all_ok (Ok next) row before after told f = f next told
if_all_ok (Err fault) row before after told f = tt

-- ---- a query whose rows are read one at a time

told_open : {X : Type 0} (s : State) (r : Result X BookFault) (P Q : X → Type 0) →
    (HasCleanDisk s → (x : X) → P x → Q x) → (HasCleanDisk s → IfOk r (λ x. IsTrue s.is_open × P x)) →
    IfOk r (λ x. HasCleanDisk s → IsTrue s.is_open × Q x)
told_open s (Ok x) P Q f told = λ clean. ((told clean).0, f clean x (told clean).1)
told_open s (Err fault) P Q f told = tt

module _ {S : Type 0} (g : Ghosts S) (old mid new : Held S) (rest : IsAtRest (state g old)) (text : List ℕ) (query : HasCleanDisk (state g old) → IsQueryUnder old.schema text) where
  -- it was begun, and its rows were read
  pub rows_queried : (HasCleanDisk (state g mid) → HasBegun g text [] old mid) →
      (old.in_transaction ≡ false → mid.in_transaction ≡ false) →
      Survives (state g old) (state g mid) (CommitsShowing text [] (state g old))
      → (mid.in_transaction ≡ false → new.in_transaction ≡ false) → Survives (state g mid) (state g new) (λ _. ⊥) → (HasCleanDisk (state g new) → Leaves (state g mid) (state g new))
      → (review : PlanTest) (r : Result Bool BookFault) → (HasCleanDisk (state g new) → IfOk r (λ good. IsTrue (state g new).is_open × ReviewsRest g mid new review good))
      → Queries (state g old) (state g new) r (ReviewsRows text (state g old).now (state g new) review)
  rows_queried begun mode one mode_on two leaves review r told =
      let late = λ (clean : HasCleanDisk (state g new)). let it : HasCleanDisk (state g mid) = omega (arith, two.clean) in it in
      let early = λ (clean : HasCleanDisk (state g mid)). let it : HasCleanDisk (state g old) = omega (arith, one.clean) in it in
      let start = λ (clean : HasCleanDisk (state g mid)). begun_plain g text [] old mid (query (early clean)).plain (begun clean) in
      queries_by (state g old) (state g new) rest (λ clean. early (late clean))
      (λ clean. leaves_then (state g old) (state g mid) (state g new)
      (unchanged_stays (state g old) (state g mid) (start (late clean)).1) (leaves clean)) r
      (ReviewsRows text (state g old).now (state g new) review) (mode_on (mode rest.outside))
      (told_open (state g new) r (ReviewsRest g mid new review) (ReviewsRows text (state g old).now (state g new) review) (λ clean good h.
      let begin = start (late clean) in
      let same = begin.1.0.now_is in
      subst (λ (d : Database). ReviewsRows text d (state g new) review good) same
      (h text (subst (λ (d : Database). IsQueryUnder d.schema text) (sym same) (query (early (late clean)))) begin.0)) told)
      (λ clean trees may. elim (two.crash clean trees may) [
        | inl before ↦ elim (one.crash (late clean) trees before) [
          | inl first ↦ first
          | inr made ↦ absurd (never_commits text [] (state g old) trees (query (early (late clean))).plain made)
        ]
        | inr none ↦ absurd none
      ])
      (endures_then (state g old) (state g mid) (state g new) late (endures_by (state g old) (state g mid) _ one) (endures_by (state g mid) (state g new) _ two))

  -- it was refused
  pub rows_refused : (error : Error) → (HasCleanDisk (state g mid) → FailsToQuery text [] (state g old) (state g mid) error) → (old.in_transaction ≡ false → mid.in_transaction ≡ false)
      → Survives (state g old) (state g mid) (CommitsShowing text [] (state g old)) → (fault : BookFault) {X : Type 0} (Is : X → Type 0) → Queries (state g old) (state g mid) (Err fault) Is
  rows_refused error fails mode one fault Is =
      let early = λ (clean : HasCleanDisk (state g mid)). let it : HasCleanDisk (state g old) = omega (arith, one.clean) in it in
      queries (state g old) (state g mid) rest early (λ clean. query_failed text [] (state g old) (state g mid) (query (early clean)).plain error (fails clean)) (Err fault) Is (mode rest.outside) tt
      (λ clean trees may. elim (one.crash clean trees may) [
        | inl first ↦ first
        | inr made ↦ absurd (never_commits text [] (state g old) trees (query (early clean)).plain made)
      ])
      (endures_by (state g old) (state g mid) _ one)
