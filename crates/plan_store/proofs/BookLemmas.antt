-- The effect of a call on a book, from its effect on the connection.
use Rattle.std.proofs.Common.{◌≡◌, ◌⊎◌, inl, inr, ◌+◌, ℕ, Option, Some, None, Ok, Err, Result, IfErr, OnOk, OnErr, refl, sym, ap, subst, ◌∙◌}
use Rattle.sqlite_trees.specs.declared.store.Store.{Ghosts}
use Rattle.sqlite_trees.specs.Tree.{Trees}
use Rattle.sqlite.specs.Effect.{Database}
use Rattle.sqlite.specs.State.{State, HasCleanDisk}
use Rattle.sqlite.specs.Held.{state}
use Rattle.plan_rows.specs.declared.fault.BookFault.{BookFault}
use Rattle.plan_rows.specs.declared.fault.BookFault.TheVariants.{NoMemory, Store}
use Rattle.plan_rows.specs.Books.{MoreFaults, Reads, Writes}
use Rattle.plan_rows.specs.World.{World}
use Rattle.plan_store.specs.Stores.{world_of}
use Rattle.plan_store.specs.Endurance.{Endures}
use Rattle.plan_store.specs.BookCalls.{Stands, IsReady, IsStoreLeft, may_leave, Asks, Changes}
use Rattle.plan_store.specs.SqlBooks.{Counted, sql_shelf}
use Rattle.plan_store.proofs.BookCallLemmas.{store_left}
use Rattle.plan_store.proofs.QueryEffectLemmas.{if_ok}

-- a ready store stays readable until an error is counted
closed : (before after : State) → IsReady after → Endures before after → HasCleanDisk after → Stands before → Stands after ⊎ MoreFaults before.faults after.faults
closed before after ready endures clean stands = elim (endures.closes clean stands.is_open) [ inl live ↦ inl (ready.stands clean live) | inr fault ↦ inr fault ]

-- the count of failures of the store
pub record Notes {X : Type 0} (r : Result X BookFault) (before after : ℕ) : Type 0 where
  pub told : OnOk r (after ≡ before)
  pub wanted : IfErr r (λ fault. fault ≡ NoMemory → after ≡ before)
  pub denied : IfErr r (λ fault. fault ≡ Store → after ≡ before + 1)

module _ {S : Type 0} (g : Ghosts S) (old new : Counted S) (ready : IsReady (state g old.conn)) where
  left_before : (s t : State) → ((trees : Trees) → t.may_leave trees → s.may_leave trees) → (w : Option World) → may_leave t w → may_leave s w
  left_before s t before (Some w) h = (h.0, before h.0 h.1, h.2, h.3)
  left_before s t before None h = (h.0, before h.0 h.1, h.2)

  -- a call that reads
  pub reads_from : {X : Type 0} (answer r : Result X BookFault) (Is : X → Type 0) → r ≡ answer → Asks (state g old.conn) (state g new.conn) answer Is
      → new.made ≡ old.made → new.refused ≡ old.refused → Notes r old.denials new.denials → Reads (sql_shelf g) old new r Is
  reads_from answer r Is is it made refused notes = subst (λ k. Reads (sql_shelf g) old new k Is) (sym is) (record {
    honesty = it.honesty;
    stood = λ clean stands. ready.stands (it.honesty clean) (it.same clean stands.is_open).0;
    same = λ clean stands. ap (λ (d : Database). world_of d.trees) (it.same clean stands.is_open).1;
    answer = if_ok answer (λ x h clean. (it.ready.stands clean (h clean).0, (h clean).1)) it.answer;
    crash = λ clean w may. left_before (state g old.conn) (state g new.conn) (it.crash clean) w may;
    store = refuses_any answer;
    made = made;
    refused = refused;
    counts = it.endures.counts;
    closes = closed (state g old.conn) (state g new.conn) it.ready it.endures;
    told = subst (λ k. OnOk k (new.denials ≡ old.denials)) is notes.told;
    wanted = subst (λ k. IfErr k (λ fault. fault ≡ NoMemory → new.denials ≡ old.denials)) is notes.wanted;
    denied = subst (λ k. IfErr k (λ fault. fault ≡ Store → new.denials ≡ old.denials + 1)) is notes.denied;
  })
    where
      refuses_any : {X : Type 0} (k : Result X BookFault) → IfErr k (λ fault. fault ≡ Store → Unit {0})
      refuses_any (Ok x) = tt
      refuses_any (Err fault) = λ _. tt

module _ {S : Type 0} (g : Ghosts S) (old new : Counted S) (ready : IsReady (state g old.conn)) (change : World → World) where
  abbrev before : State
  before = state g old.conn

  abbrev after : State
  after = state g new.conn

  -- if a crash leaves only the current tables, it leaves their office
  leaves_now : Stands after → (w : Option World) → ((trees : Trees) → after.may_leave trees → trees ≡ after.now.trees) → may_leave after w → w ≡ Some (world_of after.now.trees)
  leaves_now stands (Some w) only h = ap Some (h.3 ∙ ap world_of (only h.0 h.1))
  leaves_now stands None only h = absurd (h.2 (subst IsStoreLeft (sym (only h.0 h.1)) (store_left after.now stands.store)))

  -- a crash may leave anything that it could leave before, or the change
  leaves_change : (w : Option World) → ((trees : Trees) → after.may_leave trees →
      before.may_leave trees ⊎ (Rattle.std.proofs.Common.IsTrue before.is_open × IsStoreLeft trees
      × (world_of trees ≡ change (world_of before.now.trees))))
      → HasCleanDisk before → may_leave after w → may_leave before w ⊎ (Stands before × (w ≡ Some (change (world_of before.now.trees))))
  leaves_change (Some w) might clean h = elim (might h.0 h.1) [
    | inl earlier ↦ inl (h.0, earlier, h.2, h.3)
    | inr made ↦ inr (ready.stands clean made.0, ap Some (h.3 ∙ made.2))
  ]
  leaves_change None might clean h = elim (might h.0 h.1) [ inl earlier ↦ inl (h.0, earlier, h.2) | inr made ↦ absurd (h.2 made.1) ]

  -- a call that writes
  pub writes_from : (answer counted r : Result (Unit {0}) BookFault) → counted ≡ answer → r ≡ counted → Changes before after answer change
      → OnOk counted ((new.made ≡ old.made + 1) × (new.refused ≡ old.refused)) → OnErr counted ((new.made ≡ old.made) × (new.refused ≡ old.refused + 1))
      → Notes r old.denials new.denials → Writes (sql_shelf g) old new r change
  writes_from (Ok done) counted r first last it made refused notes =
      let is = last ∙ first in
      subst (λ k. Writes (sql_shelf g) old new k change) (sym is) (record {
        honesty = it.honesty;
        stood = λ clean stands. ready.stands (it.honesty clean) (it.stood clean stands.is_open);
        changed = λ clean. let did = it.changed clean in (it.ready.stands clean did.0, did.1);
        same = tt;
        durable = λ clean w may. leaves_now (it.ready.stands clean (it.changed clean).0) w (it.durable clean) may;
        crash = tt;
        store = tt;
        counted = subst (λ k. OnOk k ((new.made ≡ old.made + 1) × (new.refused ≡ old.refused))) first made;
        refusal = tt;
        counts = it.endures.counts;
        closes = closed before after it.ready it.endures;
        told = subst (λ k. OnOk k (new.denials ≡ old.denials)) is notes.told;
        wanted = tt;
        denied = tt;
      })
  writes_from (Err fault) counted r first last it made refused notes =
      let is = last ∙ first in
      subst (λ k. Writes (sql_shelf g) old new k change) (sym is) (record {
        honesty = it.honesty;
        stood = λ clean stands. ready.stands (it.honesty clean) (it.stood clean stands.is_open);
        changed = tt;
        same = λ clean stands. ap (λ (d : Database). world_of d.trees) (it.same clean stands.is_open);
        durable = tt;
        crash = λ clean w may. leaves_change w (it.crash clean) (it.honesty clean) may;
        store = λ _. tt;
        counted = tt;
        refusal = subst (λ k. OnErr k ((new.made ≡ old.made) × (new.refused ≡ old.refused + 1))) first refused;
        counts = it.endures.counts;
        closes = closed before after it.ready it.endures;
        told = tt;
        wanted = subst (λ k. IfErr k (λ fault. fault ≡ NoMemory → new.denials ≡ old.denials)) is notes.wanted;
        denied = subst (λ k. IfErr k (λ fault. fault ≡ Store → new.denials ≡ old.denials + 1)) is notes.denied;
      })
