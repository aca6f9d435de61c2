-- The effect of a call, from the effect of the statements of its transaction.
use Rattle.std.proofs.Common.{◌≡◌, inl, inr, ℕ, true, false, List, [], ◌∷◌, Ok, Err, Result, IsTrue, sym, ap, subst, ◌∙◌, arith}
use Rattle.sqlite_trees.specs.declared.store.Store.{Ghosts}
use Rattle.sqlite_trees.specs.Tree.{Trees}
use Rattle.sqlite.specs.Effect.{Database}
use Rattle.sqlite.specs.State.{State, HasCleanDisk, Survives, Executes}
use Rattle.sqlite.specs.Held.{Held, state}
use Rattle.plan_rows.specs.declared.fault.BookFault.{BookFault}
use Rattle.plan_rows.specs.World.{World}
use Rattle.plan_rows.specs.Rules.{IsWorld}
use Rattle.plan_store.specs.Stores.{world_of, IsStore}
use Rattle.plan_store.specs.Transactions.{Statement, LeavesAll, MayMake, Makes}
use Rattle.plan_store.specs.BookCalls.{Stands, IsReady, IsStoreLeft, IsKept, Changes}
use Rattle.plan_store.proofs.StepLemmas.{Steps}
use Rattle.plan_store.proofs.EnduringLemmas.{endures_by}

pub store_left : (db : Database) → IsStore db → IsStoreLeft db.trees
store_left db it = subst IsStore (λ i. record { schema = it.schema i; trees = db.trees }) it

-- ---- steps

pub steps_then : (a b c : State) (f h : World → World) → Steps a b f → Steps b c h → Steps a c (λ w. h (f w))
steps_then a b c f h one two = record {
  was_open = one.was_open;
  schema = two.schema;
  rows = two.rows;
  world = two.world ∙ ap h one.world;
  sound = two.sound;
}

-- steps to an office that keeps the rules end in a store
pub steps_end : (a b : State) (db : Database) (f : World → World) → db ≡ b.now → IsWorld (f (world_of a.now.trees)) → Steps a b f
    → IsTrue a.is_open × IsStore db × (world_of db.trees ≡ f (world_of a.now.trees))
steps_end a b db f is rules it = (
  it.was_open,
  subst IsStore (sym is) (record { schema = it.schema; rows = it.rows; rules = subst IsWorld (sym it.world) rules; sound = it.sound }),
  ap (λ (d : Database). world_of d.trees) is ∙ it.world,
)

-- a connection as a transaction on it begins
abbrev pub begun : {S : Type 0} → Held S → Held S
begun old = record old { in_transaction = true }

module _ {S : Type 0} (g : Ghosts S) (old : Held S) (ready : IsReady (state g old)) where
  -- a change that one statement makes, then one that two make, and three
  pub one_makes : (s : Statement) (change : World → World)
      → ((mid : Held S) (count : ℕ) → Stands (state g old) → Executes s.0 s.1 (state g (begun old)) (state g mid) (Ok count) → Steps (state g (begun old)) (state g mid) change)
      → IsKept (state g old) change → Makes g (s ∷ []) old change
  one_makes s change steps kept clean db leaves =
      let ran = leaves.1 in
      let stands = ready.stands clean ran.2 in
      steps_end (state g (begun old)) (state g ran.0) db change (leaves.2 ∙ ap (λ h. (state g h).now) ran.4) (kept clean ran.2) (steps ran.0 ran.1 stands ran.3)

  pub two_make : (s t : Statement) (f h : World → World)
      → ((mid : Held S) (count : ℕ) → Stands (state g old) → Executes s.0 s.1 (state g (begun old)) (state g mid) (Ok count) → Steps (state g (begun old)) (state g mid) f)
      → ((mid last : Held S) (count : ℕ) → Steps (state g (begun old)) (state g mid) f → Executes t.0 t.1 (state g mid) (state g last) (Ok count) → Steps (state g mid) (state g last) h)
      → IsKept (state g old) (λ w. h (f w)) → Makes g (s ∷ t ∷ []) old (λ w. h (f w))
  two_make s t f h first second kept clean db leaves =
      let ran = leaves.1 in
      let more = ran.4 in
      let stands = ready.stands clean ran.2 in
      let one = first ran.0 ran.1 stands ran.3 in
      let two = second ran.0 more.0 more.1 one more.3 in
      steps_end (state g (begun old)) (state g more.0) db (λ w. h (f w)) (leaves.2 ∙ ap (λ k. (state g k).now) more.4) (kept clean ran.2)
      (steps_then (state g (begun old)) (state g ran.0) (state g more.0) f h one two)

  pub three_make : (s t u : Statement) (f h k : World → World)
      → ((mid : Held S) (count : ℕ) → Stands (state g old) → Executes s.0 s.1 (state g (begun old)) (state g mid) (Ok count) → Steps (state g (begun old)) (state g mid) f)
      → ((mid last : Held S) (count : ℕ) → Steps (state g (begun old)) (state g mid) f → Executes t.0 t.1 (state g mid) (state g last) (Ok count) → Steps (state g mid) (state g last) h)
      → ((mid last : Held S) (count : ℕ) → Steps (state g (begun old)) (state g mid) (λ w. h (f w)) → Executes u.0 u.1 (state g mid) (state g last) (Ok count) → Steps (state g mid) (state g last) k)
      → IsKept (state g old) (λ w. k (h (f w))) → Makes g (s ∷ t ∷ u ∷ []) old (λ w. k (h (f w)))
  three_make s t u f h k first second third kept clean db leaves =
      let ran = leaves.1 in
      let more = ran.4 in
      let rest = more.4 in
      let stands = ready.stands clean ran.2 in
      let one = first ran.0 ran.1 stands ran.3 in
      let two = steps_then (state g (begun old)) (state g ran.0) (state g more.0) f h one (second ran.0 more.0 more.1 one more.3) in
      let three = third more.0 rest.0 rest.1 two rest.3 in
      steps_end (state g (begun old)) (state g rest.0) db (λ w. k (h (f w))) (leaves.2 ∙ ap (λ n. (state g n).now) rest.4) (kept clean ran.2)
      (steps_then (state g (begun old)) (state g more.0) (state g rest.0) (λ w. h (f w)) k two three)

  -- ---- a transaction

  module _ (new : Held S) (statements : List Statement) (change : World → World) (makes : Makes g statements old change) (outside : (state g new).in_transaction ≡ false)
      (survives : Survives (state g old) (state g new) (MayMake g statements old)) where
    was_clean : HasCleanDisk (state g new) → HasCleanDisk (state g old)
    was_clean clean = omega (arith, survives.clean)

    made_stands : (HasCleanDisk (state g new) → IsTrue (state g new).is_open × ((state g new).now ≡ (state g new).committed) × LeavesAll g statements old (state g new).now)
        → HasCleanDisk (state g new) → Stands (state g new)
    made_stands made clean =
        let it = made clean in
        record { is_open = it.0; outside = outside; settled = it.1; store = (makes (was_clean clean) (state g new).now it.2).1 }

    -- if it succeeds, the tables are changed, and a crash leaves them and nothing else
    pub made_changes : ((trees : Trees) → IsTrue (state g new).is_open → (state g new).may_leave trees → trees ≡ (state g new).committed.trees)
        → (HasCleanDisk (state g new) → IsTrue (state g new).is_open × ((state g new).now ≡ (state g new).committed) × LeavesAll g statements old (state g new).now)
        → (r : Result (Unit {0}) BookFault) → r ≡ Ok tt → Changes (state g old) (state g new) r change
    made_changes settled made r is = subst (λ k. Changes (state g old) (state g new) k change) (sym is) (record {
      ready = record { outside = outside; stands = λ clean _. made_stands made clean };
      honesty = was_clean;
      stood = λ clean _. (makes (was_clean clean) (state g new).now (made clean).2).0;
      changed = λ clean. let it = made clean in (it.0, (makes (was_clean clean) (state g new).now it.2).2);
      same = tt;
      durable = λ clean trees may. let it = made clean in settled trees it.0 may ∙ sym (ap (λ (d : Database). d.trees) it.1);
      crash = tt;
      endures = endures_by (state g old) (state g new) _ survives;
    })

    -- if it fails, they are as before, and a crash may leave the change
    pub refused_changes : (HasCleanDisk (state g new) → IsTrue (state g new).is_open → IsTrue (state g old).is_open
        × ((state g new).now ≡ (state g old).committed) × ((state g new).committed ≡ (state g old).committed))
        → (r : Result (Unit {0}) BookFault) (fault : BookFault) → r ≡ Err fault → Changes (state g old) (state g new) r change
    refused_changes neither r fault is =
        let back = λ (clean : HasCleanDisk (state g new)) (live : IsTrue (state g new).is_open). ready.stands (was_clean clean) (neither clean live).0 in
        let same = λ (clean : HasCleanDisk (state g new)) (live : IsTrue (state g new).is_open). (neither clean live).1 ∙ sym (back clean live).settled in
        subst (λ k. Changes (state g old) (state g new) k change) (sym is) (record {
          ready = record {
            outside = outside;
            stands = λ clean live. record {
              is_open = live;
              outside = outside;
              settled = (neither clean live).1 ∙ sym (neither clean live).2;
              store = subst IsStore (sym (same clean live)) (back clean live).store;
            };
          };
          honesty = was_clean;
          stood = λ clean live. (neither clean live).0;
          changed = tt;
          same = same;
          durable = tt;
          crash = λ clean trees may. elim (survives.crash clean trees may) [
            | inl before ↦ inl before
            | inr made ↦
                let it = makes (was_clean clean) made.0 made.1 in
                inr (it.0, subst IsStoreLeft (sym made.2) (store_left made.0 it.1), ap world_of made.2 ∙ it.2)
          ];
          endures = endures_by (state g old) (state g new) _ survives;
        })

-- an equal change
module _ (old new : State) (f h : World → World) (same : HasCleanDisk old → IsTrue old.is_open → f (world_of old.now.trees) ≡ h (world_of old.now.trees)) where
  pub changes_as : (r : Result (Unit {0}) BookFault) → Changes old new r f → Changes old new r h
  changes_as (Ok done) it = record {
    ready = it.ready;
    honesty = it.honesty;
    stood = it.stood;
    changed = λ clean. let made = it.changed clean in (made.0, made.1 ∙ same (it.honesty clean) (it.stood clean made.0));
    same = tt;
    durable = it.durable;
    crash = tt;
    endures = it.endures;
  }
  changes_as (Err fault) it = record {
    ready = it.ready;
    honesty = it.honesty;
    stood = it.stood;
    changed = tt;
    same = it.same;
    durable = tt;
    crash = λ clean trees may. elim (it.crash clean trees may) [ inl before ↦ inl before | inr made ↦ inr (made.0, made.1, made.2 ∙ same (it.honesty clean) made.0) ];
    endures = it.endures;
  }
