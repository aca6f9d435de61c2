-- The effect of the statements that migrate tables of the first version to the second.
use Rattle.std.proofs.Common.{◌≡◌, ◌≢◌, ℕ, ℤ, pos, Bool, true, false, List, [], ◌∷◌, map, filter, ◌⊎◌, inl, inr, Option, None, Result, Ok, Err, IsTrue, refl, sym, ap, subst, ◌∙◌, arith, codes, int_eq}
use Rattle.sqlite_value.specs.declared.value.Value.TheVariants.{Null, Int}
use Rattle.sqlite_value.specs.declared.keys.Collation.TheVariants.{Binary}
use Rattle.sqlite_value.specs.Order.{Row}
use Rattle.sqlite_trees.specs.Tree.{Trees}
use Rattle.sqlite_trees.specs.declared.store.Store.{Ghosts}
use Rattle.sqlite_sql.specs.declared.ops.BinaryOp.TheVariants.{Compare}
use Rattle.sqlite_sql.specs.declared.ops.CompareOp.TheVariants.{Eq}
use Rattle.sqlite_sql.specs.Term.{Term, lit, col, op2}
use Rattle.sqlite_sql.specs.Query.{Query}
use Rattle.sqlite_sql.specs.Program.{overlay}
use Rattle.sqlite_schema.specs.declared.schema.Keys.TheVariants.{Enforced}
use Rattle.sqlite_schema.specs.declared.command.Command.TheVariants.{Update}
use Rattle.sqlite_rules.specs.declared.error.Rowids.TheVariants.{Given}
use Rattle.sqlite_rules.specs.Calls.{ids_of}
use Rattle.sqlite_rules.specs.Cast.{cast_all}
use Rattle.sqlite_rules.specs.Edit.{edit_of, IsNoIndex}
use Rattle.sqlite.specs.declared.run.Mode.{Mode}
use Rattle.sqlite.specs.Effect.{Database, IsDatabase}
use Rattle.sqlite.specs.Does.{Tally, Does, OnRows}
use Rattle.sqlite.specs.Rows.{Task, Written}
use Rattle.sqlite.specs.Listing.{understood}
use Rattle.sqlite.specs.State.{State, HasCleanDisk, Survives, Executes, mode_of}
use Rattle.sqlite.specs.Held.{Held, state}
use Rattle.sqlite.proofs.Callers.{IsPlain, command_of, statement_of, runs_as, one_step}
use Rattle.sqlite_tied.specs.Compute.{everything}
use Rattle.sqlite_keyed.specs.Keyed.{IsKeyedBy}
use Rattle.sqlite_typed.proofs.TestLemmas.{last_term, at_ints}
use Rattle.plan_rows.specs.World.{Digest}
use Rattle.plan_rows.specs.Rules.{IsWorld}
use Rattle.plan_store.specs.declared.layout.Layout.TheVariants.{First}
use Rattle.plan_store.specs.Tables.{meta, store_schema}
use Rattle.plan_store.specs.TableRows.{Keeps}
use Rattle.plan_store.specs.Rows.{digest_value, meta_row, office_in, written_code, read_code, written_desk, read_desk, written_plan, read_plan, written_bind, read_bind, read_lag}
use Rattle.plan_store.specs.Stores.{world_of, IsStore}
use Rattle.plan_store.specs.Layouts.{meta_at, world_in, IsOfficeAt}
use Rattle.plan_store.specs.Transactions.{Statement, LeavesAll, MayMake}
use Rattle.plan_store.specs.BookCalls.{IsStoreLeft}
use Rattle.plan_store.specs.Adoption.{Takes, IsMigrated}
use Rattle.plan_store.specs.declared.fault.StoreFault.{StoreFault}
use Rattle.plan_store.specs.declared.fault.StoreFault.TheVariants.{NotOurs, Version, NoMemory, Store}
use Rattle.plan_store.proofs.EditLemmas.{number_of, changed_row, rows_updated, cast_int, cast_null}
use Rattle.plan_store.proofs.EffectLemmas.{Sets, went, same_value, few_alike, run_query}
use Rattle.plan_store.proofs.QueryForms.{of_table, alone}
use Rattle.plan_store.proofs.CodecLemmas.{digest_back}
use Rattle.plan_store.proofs.BookCallLemmas.{store_left}
use Rattle.plan_store.proofs.CreateMeanings.{with_binds, create_lags, creates_lags}
use Rattle.plan_store.proofs.CreateLemmas.{makes_table}

-- ---- the new version

abbrev pub bump_text : List ℕ
bump_text = codes "UPDATE meta SET version = 2 WHERE id = 1"

abbrev bump_test : List Term
bump_test = op2 (Compare Eq Binary) (col 1 0) (lit (Int (pos 1))) ∷ []

abbrev bump_project : List Term
bump_project = col 1 0 ∷ col 1 0 ∷ lit Null ∷ lit (Int (pos 2)) ∷ col 1 3 ∷ []

abbrev pub bump_query : Query
bump_query = of_table 0 bump_test bump_project []

pub bump_is : command_of (understood store_schema bump_text) ≡ Update 0 (alone bump_query)
unfolding understood everything
bump_is = refl

pub bump_plain : IsPlain (understood store_schema bump_text)
unfolding understood everything
bump_plain = (refl, refl)

-- the row of the first table: a version and a digest, behind its number
abbrev written_meta : ℤ × Digest → Row
written_meta it = Null ∷ Int it.0 ∷ digest_value it.1 ∷ []

meta_casts : (it : ℤ × Digest) → cast_all meta.columns (written_meta it) ≡ written_meta it
meta_casts it = λ i. cast_null i ∷ cast_int it.0 i ∷ digest_value it.1 ∷ []

abbrev second : ℤ × Digest → ℤ × Digest
second it = (pos 2, it.1)

module _ (limit : Option ℕ) (mode : Mode) (db : Trees) (version : ℤ) (office : Digest) (are : db 0 ≡ meta_at version office ∷ []) where
  abbrev task : Task
  task = record { limit = limit; keys = Enforced; schema = store_schema; table = meta; params = [] }

  abbrev xs : List (ℤ × (ℤ × Digest))
  xs = (pos 1, (version, office)) ∷ []

  abbrev up : IsKeyedBy number_of xs
  up = (tt, tt)

  abbrev p : ℤ × (ℤ × Digest) → Bool
  p x = int_eq x.0 (pos 1)

  bumped : (out : Tally × Database) → OnRows task mode None (Update 0 (alone bump_query)) db (Ok out) → Sets store_schema 0 (meta_at (pos 2) office ∷ []) db out.1
  bumped out h =
      let done = went h in
      let asked = went done.1 in
      let put = went asked.2 in
      let trees : done.0.trees ≡ put.0 = ap (λ (it : Written). it.trees) (same_value put.2) in
      let show = changed_row written_meta meta meta_casts db xs are up second in
      let tests = λ (x : ℤ × (ℤ × Digest)). last_term (at_ints false Eq x.0 (pos 1)) in
      let rows : asked.0 ≡ map show (filter p xs) =
      few_alike (map show (filter p xs)) asked.0 (omega arith) (run_query written_meta 0 bump_test bump_project [] (overlay db []) xs are up p tests show (λ x. refl) asked.0 (asked.1.answer Null)) in
      let edit = edit_of db meta (ids_of asked.0) Given 1 asked.0 in
      let it = one_step store_schema Enforced db put.0 edit refl put.1 in
      let now : out.1 ≡ record { schema = store_schema; trees = done.0.trees } = ap (λ (q : Tally × Database). q.1) (same_value (went (went done.2).2).2) in
      let after : out.1.trees ≡ put.0 = ap (λ (d : Database). d.trees) now ∙ trees in
      record {
        schema_is = ap (λ (d : Database). d.schema) now;
        rows_are = ap (λ (t : Trees). t 0) after ∙ it.rows ∙ rows_updated written_meta meta meta_casts db xs are up p second asked.0 rows;
        others = λ t other none. ap (λ (k : Trees). k t) after ∙ it.others t other none;
      }

pub bumps : (version : ℤ) (office : Digest) (old new : State) → old.now.schema ≡ store_schema → old.now.trees 0 ≡ meta_at version office ∷ [] → (count : ℕ) → Executes bump_text [] old new (Ok count)
    → Sets store_schema 0 (meta_at (pos 2) office ∷ []) old.now.trees new.now × IsDatabase new.now
bumps version office old new has are count h =
    let w = runs_as bump_text [] old new store_schema has (Update 0 (alone bump_query)) bump_is bump_plain count h in
    let done = subst (λ s. Does old.step_limit (mode_of old) [] (record old.now { schema = s })
    (statement_of bump_text (understood store_schema bump_text)) None (Update 0 (alone bump_query))
    (Ok (w.tally, new.now))) has w.changed in
    (bumped old.step_limit (mode_of old) old.now.trees version office are (w.tally, new.now) done, w.sound)

-- ---- both statements

abbrev pub migration : List Statement
migration = (create_lags, []) ∷ (bump_text, []) ∷ []

nothing_kept : {A : Type 0} (written : A → Row) (read : Row → A) (rows : List Row) → rows ≡ [] → Keeps written read rows
nothing_kept written read rows none = record { entries = []; are = none; rise = tt; back = tt }

second_store : (old db : Database) → IsOfficeAt First (pos 1) old → db.schema ≡ store_schema → db.trees 0 ≡ meta_at (pos 2) (world_of old.trees).office ∷ []
    → (db.trees 1 ≡ old.trees 1) × (db.trees 3 ≡ old.trees 3) × (db.trees 5 ≡ old.trees 5) × (db.trees 7 ≡ old.trees 7) × (db.trees 9 ≡ []) → IsDatabase db
    → IsStore db × (world_of db.trees ≡ world_in First old.trees)
second_store old db it schema first kept sound =
    let office : office_in (db.trees 0) ≡ office_in (old.trees 0) = ap office_in first ∙ digest_back (world_of old.trees).office it.rules.office in
    let world : world_of db.trees ≡ world_in First old.trees = λ i. record {
      office = office i;
      published = map read_code (kept.0 i);
      desks = map read_desk (kept.1 i);
      plans = map read_plan (kept.2 i);
      binds = map read_bind (kept.3 i);
      lags = map read_lag (kept.4 i);
    } in (
      record {
        schema = schema;
        rows = record {
          meta = first ∙ ap (λ d. meta_row d ∷ []) (sym office);
          published = subst (Keeps written_code read_code) (sym kept.0) it.published;
          desks = subst (Keeps written_desk read_desk) (sym kept.1) it.desks;
          plans = subst (Keeps written_plan read_plan) (sym kept.2) it.plans;
          binds = subst (Keeps written_bind read_bind) (sym kept.3) it.binds;
          lags = nothing_kept _ _ _ kept.4;
        };
        rules = subst IsWorld (sym world) it.rules;
        sound = sound;
      },
      world,
    )

pub migrates : {S : Type 0} (g : Ghosts S) (old : Held S) → IsOfficeAt First (pos 1) (state g old).now → (db : Database) → LeavesAll g migration old db
    → IsTrue (state g old).is_open × IsStore db × (world_of db.trees ≡ world_in First (state g old).now.trees)
migrates g old it db leaves =
    let r1 = leaves.1 in
    let r2 = r1.4 in
    let made = makes_table create_lags with_binds store_schema _ creates_lags (state g (record old { in_transaction = true })) (state g r1.0) it.schema r1.1 r1.3 in
    let office = (world_of (state g old).now.trees).office in
    let last = bumps (pos 1) office (state g r1.0) (state g r2.0) made.schema (made.others.0 ∙ it.meta) r2.1 r2.3 in
    let is : db ≡ (state g r2.0).now = leaves.2 ∙ ap (λ h. (state g h).now) r2.4 in
    let kept = λ (t : ℕ) (other : t ≢ 0) (apart : IsNoIndex store_schema t). ap (λ (d : Database). d.trees t) is ∙ last.0.others t other apart in
    let both = second_store (state g old).now db it (ap (λ (d : Database). d.schema) is ∙ last.0.schema_is) (ap (λ (d : Database). d.trees 0) is ∙ last.0.rows_are) (
      kept 1 (λ e. cc) (λ e. cc, (λ e. cc, (λ e. cc, (λ e. cc, (λ e. cc, tt))))) ∙ made.others.1.0,
      kept 3 (λ e. cc) (λ e. cc, (λ e. cc, (λ e. cc, (λ e. cc, (λ e. cc, tt))))) ∙ made.others.1.1.0,
      kept 5 (λ e. cc) (λ e. cc, (λ e. cc, (λ e. cc, (λ e. cc, (λ e. cc, tt))))) ∙ made.others.1.1.1.0,
      kept 7 (λ e. cc) (λ e. cc, (λ e. cc, (λ e. cc, (λ e. cc, (λ e. cc, tt))))) ∙ made.others.1.1.1.1.0,
      kept 9 (λ e. cc) (λ e. cc, (λ e. cc, (λ e. cc, (λ e. cc, (λ e. cc, tt))))) ∙ made.empty,
    )
    (subst IsDatabase (sym is) last.1) in
    (r1.2, both.0, both.1)

-- ---- the effect of the call, from that of its transaction

module _ {S : Type 0} (g : Ghosts S) (old new : Held S) (first : HasCleanDisk (state g old) → IsOfficeAt First (pos 1) (state g old).now) (outside : (state g new).in_transaction ≡ false)
    (survives : Survives (state g old) (state g new) (MayMake g migration old)) where
  honest : HasCleanDisk (state g new) → HasCleanDisk (state g old)
  honest clean = let less = survives.clean in omega arith

  pub migrated_all : ((trees : Trees) → IsTrue (state g new).is_open → (state g new).may_leave trees → trees ≡ (state g new).committed.trees)
      → (HasCleanDisk (state g new) → IsTrue (state g new).is_open × ((state g new).now ≡ (state g new).committed) × LeavesAll g migration old (state g new).now)
      → (r : Result (Unit {0}) StoreFault) → r ≡ Ok tt → Takes (state g old) (state g new) r
  migrated_all settled made r is = subst (λ k. Takes (state g old) (state g new) k) (sym is) (record {
    outside = outside;
    honesty = honest;
    taken = λ clean.
        let it = made clean in
        let office = first (honest clean) in
        let end = migrates g old office (state g new).now it.2 in
        (record { is_open = it.0; outside = outside; settled = it.1; store = end.1 }, inr (office, end.2));
    durable = λ clean trees may. let it = made clean in settled trees it.0 may ∙ sym (ap (λ (d : Database). d.trees) it.1);
    cause = tt;
    kept = tt;
    crash = tt;
    is_open = tt;
  })

  no_cause : (fault : StoreFault) (db : Database) → fault ≢ NotOurs → fault ≢ Version → Rattle.plan_store.specs.Adoption.IsCause fault db
  no_cause NotOurs db ours known = absurd (ours refl)
  no_cause Version db ours known = absurd (known refl)
  no_cause NoMemory db ours known = tt
  no_cause Store db ours known = tt

  no_other : (fault : StoreFault) → fault ≢ NotOurs → fault ≢ Version → Rattle.plan_store.specs.Adoption.IsOpenAfter fault (state g new)
  no_other NotOurs ours known = absurd (ours refl)
  no_other Version ours known = absurd (known refl)
  no_other NoMemory ours known = tt
  no_other Store ours known = tt

  pub migrated_none : (IsTrue (state g old).is_open → (state g old).now ≡ (state g old).committed)
      → (HasCleanDisk (state g new) → IsTrue (state g new).is_open → IsTrue (state g old).is_open × ((state g new).now ≡ (state g old).committed) × ((state g new).committed ≡ (state g old).committed))
      → (r : Result (Unit {0}) StoreFault) (fault : StoreFault) → r ≡ Err fault → fault ≢ NotOurs → fault ≢ Version → Takes (state g old) (state g new) r
  migrated_none settled neither r fault is ours known = subst (λ k. Takes (state g old) (state g new) k) (sym is) (record {
    outside = outside;
    honesty = honest;
    taken = tt;
    durable = tt;
    cause = λ clean. no_cause fault (state g old).now ours known;
    kept = λ clean live. let it = neither clean live in it.1 ∙ sym (settled it.0);
    crash = λ clean trees may. left clean trees (survives.crash clean trees may);
    is_open = no_other fault ours known;
  })
    where
      left : HasCleanDisk (state g new) → (trees : Trees) → (state g old).may_leave trees ⊎ MayMake g migration old trees
          → (state g old).may_leave trees ⊎ ((fault ≢ NotOurs) × (fault ≢ Version) × IsMigrated (state g old).now trees)
      left clean trees (inl before) = inl before
      left clean trees (inr made) =
          let office = first (honest clean) in
          let end = migrates g old office made.0 made.1 in
          inr (ours, known, (office, subst IsStoreLeft (sym made.2) (store_left made.0 end.1), ap world_of made.2 ∙ end.2))
