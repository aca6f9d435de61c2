-- The effect of the statements that create a store.
use Rattle.std.proofs.Common.{◌≡◌, ◌≢◌, ℕ, pos, true, false, List, [], ◌∷◌, map, None, Ok, Err, Result, IsTrue, refl, sym, ap, subst, ◌∙◌}
use Rattle.std.specs.List.{AllByRecursion}
use Rattle.sqlite_value.specs.Order.{Row}
use Rattle.sqlite_trees.specs.Tree.{Trees, put_row}
use Rattle.sqlite_trees.specs.declared.store.Store.{Ghosts}
use Rattle.sqlite_schema.specs.declared.schema.Keys.TheVariants.{Enforced}
use Rattle.sqlite_schema.specs.declared.schema.Schema.{Schema}
use Rattle.sqlite_schema.specs.declared.schema.Table.{Table}
use Rattle.sqlite_schema.specs.declared.command.Command.TheVariants.{CreateTable, Insert}
use Rattle.sqlite_schema.specs.declared.command.Source.TheVariants.{Values}
use Rattle.sqlite_rules.specs.declared.error.Rowids.TheVariants.{Chosen}
use Rattle.sqlite_rules.specs.Edit.{edit_of, edited, with_rowid}
use Rattle.sqlite_catalog.specs.Change.{created, next_tree, KeepsRows}
use Rattle.sqlite.specs.Effect.{Database, IsDatabase}
use Rattle.sqlite.specs.Listing.{understood}
use Rattle.sqlite.specs.Does.{Tally, Does, lacks_sequence}
use Rattle.sqlite.specs.Rows.{Written}
use Rattle.sqlite.specs.State.{State, HasCleanDisk, Survives, Executes, Writes, mode_of}
use Rattle.sqlite.specs.Held.{Held, state}
use Rattle.sqlite.proofs.Callers.{statement_of, runs_as, one_step}
use Rattle.sqlite.proofs.StateLemmas.{survives_weaker}
use Rattle.plan_rows.specs.Names.{is_digest}
use Rattle.plan_rows.specs.Rules.{IsWorld}
use Rattle.plan_rows.specs.World.{Digest, empty_world}
use Rattle.plan_store.specs.declared.fault.StoreFault.{StoreFault}
use Rattle.plan_store.specs.declared.fault.StoreFault.TheVariants.{NotOurs, Version}
use Rattle.plan_store.specs.Tables.{no_schema, meta, store_schema}
use Rattle.plan_store.specs.TableRows.{Keeps}
use Rattle.plan_store.specs.Rows.{digest_value, meta_row, office_in}
use Rattle.plan_store.specs.Stores.{world_of, IsStore}
use Rattle.plan_store.specs.Transactions.{Statement, LeavesAll, MayMake}
use Rattle.plan_store.specs.BookCalls.{IsStoreLeft}
use Rattle.plan_store.specs.Creation.{IsNewStore, Creates}
use Rattle.plan_store.proofs.EditLemmas.{cast_int, cast_null}
use Rattle.plan_store.proofs.EffectLemmas.{went, same_value}
use Rattle.plan_store.proofs.CodecLemmas.{digest_back}
use Rattle.plan_store.proofs.BookCallLemmas.{store_left}
use Rattle.plan_store.proofs.TransactionLemmas.{survives_itself}
use Rattle.plan_store.proofs.CreateMeanings.{IsCreation, with_meta, with_published, with_desks, with_plans, with_binds, create_meta, creates_meta}
use Rattle.plan_store.proofs.CreateMeanings.{create_published, creates_published, create_desks, creates_desks, create_plans, creates_plans, create_binds}
use Rattle.plan_store.proofs.CreateMeanings.{creates_binds, create_lags, creates_lags, fill_meta, fill_terms, fill_is, fill_plain}

-- a new table has no row, and the others keep theirs
pub record Made (before after : Schema) (old new : State) : Type 0 where
  pub schema : new.now.schema ≡ after
  pub empty : new.now.trees (next_tree before) ≡ []
  pub others : KeepsRows before.tables old.now.trees new.now.trees

pub makes_table : (text : List ℕ) (before after : Schema) (table : Table) → IsCreation text before after table → (old new : State) → old.now.schema ≡ before → (count : ℕ)
    → Executes text [] old new (Ok count) → Made before after old new
makes_table text before after table it old new has count h =
    let w = subst (λ t. Writes old new None CreateTable t [] count) it.whole (runs_as text [] old new before has CreateTable it.command it.plain count h) in
    let all = went w.changed in
    let first = went all.1 in
    let made = first.1 in
    let both : Ok made.table ≡ Ok table = sym made.defined ∙ it.defined in
    let same : made.table ≡ table = cc in
    let schema : first.0.schema ≡ after = made.is ∙ ap (λ s. created s made.table) has ∙ ap (created before) same ∙ it.leaves in
    let plain : lacks_sequence first.0.schema ≡ false = ap lacks_sequence schema ∙ it.uncounted in
    let now : new.now ≡ first.0 = ap (λ (p : Tally × Database). p.1) (same_value all.2) ∙ same_value (rw plain at first.2) in
    record {
      schema = ap (λ (d : Database). d.schema) now ∙ schema;
      empty = ap (λ (d : Database). d.trees (next_tree before)) now ∙ subst (λ s. first.0.trees (next_tree s) ≡ []) has made.empty;
      others = subst (λ (d : Database). KeepsRows before.tables old.now.trees d.trees) (sym now) (subst (λ s. KeepsRows s.tables old.now.trees first.0.trees) has made.others);
    }

-- the row of the first table
pub record Filled (digest : Digest) (old new : State) : Type 0 where
  pub was_open : IsTrue old.is_open
  pub schema : new.now.schema ≡ store_schema
  pub meta_is : new.now.trees 0 ≡ meta_row digest ∷ []
  pub others : (t : ℕ) → t ≢ 0 → AllByRecursion (λ i. i.tree ≢ t) store_schema.indexes → new.now.trees t ≡ old.now.trees t
  pub sound : IsDatabase new.now

pub fills : (digest : Digest) (old new : State) → old.now.schema ≡ store_schema → old.now.trees 0 ≡ [] →
    (count : ℕ) → Executes fill_meta (digest_value digest ∷ []) old new (Ok count) → Filled digest old new
fills digest old new has none count h =
    let given = digest_value digest ∷ [] in
    let command = Insert 0 (Values fill_terms 4) in
    let db = old.now.trees in
    let w = runs_as fill_meta given old new store_schema has command fill_is fill_plain count h in
    let text = statement_of fill_meta (understood store_schema fill_meta) in
    let done = went (subst (λ s. Does old.step_limit (mode_of old) given (record old.now { schema = s }) text None command (Ok (w.tally, new.now))) has w.changed) in
    let now = ap (λ (p : Tally × Database). p.1) (same_value (went (went done.2).2).2) in
    let asked = went done.1 in
    let put = went (went asked.2).2 in
    let counted = went put.2 in
    let trees : done.0.trees ≡ put.0 = ap (λ (it : Written). it.trees) (same_value counted.2) ∙ same_value counted.1 in
    let edit = edit_of db meta [] Chosen 0 asked.0 in
    let it = one_step store_schema Enforced db put.0 edit refl put.1 in
    let cast : Rattle.sqlite_rules.specs.Cast.cast_row meta (meta_row digest) ≡ meta_row digest = λ i. cast_int (pos 1) i ∷ cast_null i ∷ cast_int (pos 2) i ∷ digest_value digest ∷ [] in
    let rows : edited db edit ≡ meta_row digest ∷ [] =
    ap (λ all. edited db (edit_of db meta [] Chosen 0 all)) asked.1.1 ∙ ap (λ l. put_row (with_rowid Chosen l (Rattle.sqlite_rules.specs.Cast.cast_row meta (meta_row digest))) l) none
    ∙ ap (λ r. put_row (with_rowid Chosen [] r) []) cast in
    let after : new.now.trees ≡ put.0 = ap (λ (d : Database). d.trees) now ∙ trees in
    record {
      was_open = w.shown.was_open;
      schema = ap (λ (d : Database). d.schema) now;
      meta_is = ap (λ (t : Trees). t 0) after ∙ it.rows ∙ rows;
      others = λ t other apart. ap (λ (k : Trees). k t) after ∙ it.others t other apart;
      sound = w.sound;
    }

nothing_kept : {A : Type 0} (written : A → Row) (read : Row → A) (rows : List Row) → rows ≡ [] → Keeps written read rows
nothing_kept written read rows none = record { entries = []; are = none; rise = tt; back = tt }

-- tables with no row but that one are those of a new store
new_store : (digest : Digest) (db : Database) → is_digest digest ≡ true → db.schema ≡ store_schema → db.trees 0 ≡ meta_row digest ∷ []
    → (db.trees 1 ≡ []) × (db.trees 3 ≡ []) × (db.trees 5 ≡ []) × (db.trees 7 ≡ []) × (db.trees 9 ≡ []) → IsDatabase db → IsStore db × (world_of db.trees ≡ empty_world digest)
new_store digest db good schema first none sound =
    let office : office_in (db.trees 0) ≡ digest = ap office_in first ∙ digest_back digest good in
    let world : world_of db.trees ≡ empty_world digest = λ i. record {
      office = office i;
      published = map Rattle.plan_store.specs.Rows.read_code (none.0 i);
      desks = map Rattle.plan_store.specs.Rows.read_desk (none.1 i);
      plans = map Rattle.plan_store.specs.Rows.read_plan (none.2 i);
      binds = map Rattle.plan_store.specs.Rows.read_bind (none.3 i);
      lags = map Rattle.plan_store.specs.Rows.read_lag (none.4 i);
    } in
    let rules : IsWorld (empty_world digest) = record {
      office = good;
      published = tt;
      desks = tt;
      plans = tt;
      codes_differ = tt;
      desks_differ = tt;
      plans_differ = tt;
      binds_differ = tt;
      lags_differ = tt;
      few = tt;
      owned = tt;
      bound = tt;
      lagged = tt;
    } in (
      record {
        schema = schema;
        rows = record {
          meta = first ∙ ap (λ d. meta_row d ∷ []) (sym office);
          published = nothing_kept _ _ _ none.0;
          desks = nothing_kept _ _ _ none.1;
          plans = nothing_kept _ _ _ none.2;
          binds = nothing_kept _ _ _ none.3;
          lags = nothing_kept _ _ _ none.4;
        };
        rules = subst IsWorld (sym world) rules;
        sound = sound;
      },
      world,
    )

-- the statements, with the digest that they write
abbrev pub new_statements : Digest → List Statement
new_statements digest =
    (create_meta, []) ∷ (create_published, []) ∷ (create_desks, []) ∷ (create_plans, []) ∷ (create_binds, []) ∷ (create_lags, []) ∷ (fill_meta, digest_value digest ∷ []) ∷ []

pub news : {S : Type 0} (g : Ghosts S) (digest : Digest) → is_digest digest ≡ true → (old : Held S) →
    (state g old).now.schema ≡ no_schema → (db : Database) → LeavesAll g (new_statements digest) old db
    → IsTrue (state g old).is_open × IsStore db × (world_of db.trees ≡ empty_world digest)
news g digest good old has db leaves =
    let r1 = leaves.1 in
    let r2 = r1.4 in
    let r3 = r2.4 in
    let r4 = r3.4 in
    let r5 = r4.4 in
    let r6 = r5.4 in
    let r7 = r6.4 in
    let m1 = makes_table create_meta no_schema with_meta _ creates_meta (state g (record old { in_transaction = true })) (state g r1.0) has r1.1 r1.3 in
    let m2 = makes_table create_published with_meta with_published _ creates_published (state g r1.0) (state g r2.0) m1.schema r2.1 r2.3 in
    let m3 = makes_table create_desks with_published with_desks _ creates_desks (state g r2.0) (state g r3.0) m2.schema r3.1 r3.3 in
    let m4 = makes_table create_plans with_desks with_plans _ creates_plans (state g r3.0) (state g r4.0) m3.schema r4.1 r4.3 in
    let m5 = makes_table create_binds with_plans with_binds _ creates_binds (state g r4.0) (state g r5.0) m4.schema r5.1 r5.3 in
    let m6 = makes_table create_lags with_binds store_schema _ creates_lags (state g r5.0) (state g r6.0) m5.schema r6.1 r6.3 in
    let t0 = m6.others.0 ∙ m5.others.0 ∙ m4.others.0 ∙ m3.others.0 ∙ m2.others.0 ∙ m1.empty in
    let t1 = m6.others.1.0 ∙ m5.others.1.0 ∙ m4.others.1.0 ∙ m3.others.1.0 ∙ m2.empty in
    let t3 = m6.others.1.1.0 ∙ m5.others.1.1.0 ∙ m4.others.1.1.0 ∙ m3.empty in
    let t5 = m6.others.1.1.1.0 ∙ m5.others.1.1.1.0 ∙ m4.empty in
    let t7 = m6.others.1.1.1.1.0 ∙ m5.empty in
    let last = fills digest (state g r6.0) (state g r7.0) m6.schema t0 r7.1 r7.3 in
    let is : db ≡ (state g r7.0).now = leaves.2 ∙ ap (λ h. (state g h).now) r7.4 in
    let kept = λ (t : ℕ) (other : t ≢ 0) (apart : AllByRecursion (λ i. i.tree ≢ t) store_schema.indexes)
    (none : (state g r6.0).now.trees t ≡ []). ap (λ (d : Database). d.trees t) is
    ∙ last.others t other apart ∙ none in
    let made = new_store digest db good (ap (λ (d : Database). d.schema) is ∙ last.schema) (ap (λ (d : Database). d.trees 0) is ∙ last.meta_is) (
      kept 1 (λ e. cc) (λ e. cc, (λ e. cc, (λ e. cc, (λ e. cc, (λ e. cc, tt))))) t1,
      kept 3 (λ e. cc) (λ e. cc, (λ e. cc, (λ e. cc, (λ e. cc, (λ e. cc, tt))))) t3,
      kept 5 (λ e. cc) (λ e. cc, (λ e. cc, (λ e. cc, (λ e. cc, (λ e. cc, tt))))) t5,
      kept 7 (λ e. cc) (λ e. cc, (λ e. cc, (λ e. cc, (λ e. cc, (λ e. cc, tt))))) t7,
      kept 9 (λ e. cc) (λ e. cc, (λ e. cc, (λ e. cc, (λ e. cc, (λ e. cc, tt))))) m6.empty,
    )
    (subst IsDatabase (sym is) last.sound) in
    (r1.2, made.0, made.1)

-- ---- the effect of a call, from that of its transaction

module _ {S : Type 0} (g : Ghosts S) (digest : Digest) (good : is_digest digest ≡ true) (old new : Held S) (has : (state g old).now.schema ≡ no_schema) (outside : (state g new).in_transaction ≡ false)
    (survives : Survives (state g old) (state g new) (MayMake g (new_statements digest) old)) where
  crash_leaves : Survives (state g old) (state g new) (IsNewStore digest)
  crash_leaves = survives_weaker (state g old) (state g new) (MayMake g (new_statements digest) old) (IsNewStore digest)
      (λ clean trees made. let it = news g digest good old has made.0 made.1 in (subst IsStoreLeft (sym made.2) (store_left made.0 it.1), ap world_of made.2 ∙ it.2)) survives

  pub created_all : ((trees : Trees) → IsTrue (state g new).is_open → (state g new).may_leave trees → trees ≡ (state g new).committed.trees)
      → (HasCleanDisk (state g new) → IsTrue (state g new).is_open × ((state g new).now ≡ (state g new).committed) × LeavesAll g (new_statements digest) old (state g new).now)
      → (r : Result (Unit {0}) StoreFault) → r ≡ Ok tt → Creates (state g old) (state g new) r digest
  created_all settled made r is = subst (λ k. Creates (state g old) (state g new) k digest) (sym is) (record {
    outside = outside;
    made = λ clean.
        let it = made clean in
        let new_one = news g digest good old has (state g new).now it.2 in
        (record { is_open = it.0; outside = outside; settled = it.1; store = new_one.1 }, new_one.2);
    durable = λ clean trees may. let it = made clean in settled trees it.0 may ∙ sym (ap (λ (d : Database). d.trees) it.1);
    kept = tt;
    crash = crash_leaves;
    which = tt;
  })

  pub created_none : ((state g old).in_transaction ≡ false → IsTrue (state g old).is_open → (state g old).now ≡ (state g old).committed) → (state g old).in_transaction ≡ false
      → (HasCleanDisk (state g new) → IsTrue (state g new).is_open → IsTrue (state g old).is_open × ((state g new).now ≡ (state g old).committed) × ((state g new).committed ≡ (state g old).committed))
      → (r : Result (Unit {0}) StoreFault) (fault : StoreFault) → r ≡ Err fault → (fault ≢ NotOurs) × (fault ≢ Version) → Creates (state g old) (state g new) r digest
  created_none settled was_outside neither r fault is other = subst (λ k. Creates (state g old) (state g new) k digest) (sym is) (record {
    outside = outside;
    made = tt;
    durable = tt;
    kept = λ clean live. let it = neither clean live in (it.0, it.1 ∙ sym (settled was_outside it.0), it.2);
    crash = crash_leaves;
    which = other;
  })

-- nothing was tried
pub creates_nothing : (s : State) (digest : Digest) (r : Result (Unit {0}) StoreFault) (fault : StoreFault) →
    r ≡ Err fault → s.in_transaction ≡ false → (fault ≢ NotOurs) × (fault ≢ Version) → Creates s s r digest
creates_nothing s digest r fault is outside other = subst (λ k. Creates s s k digest) (sym is) (record {
  outside = outside;
  made = tt;
  durable = tt;
  kept = λ clean live. (live, refl, refl);
  crash = survives_itself s (IsNewStore digest);
  which = other;
})
