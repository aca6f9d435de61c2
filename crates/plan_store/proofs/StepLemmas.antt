-- The effect of one edit on the office in the tables.
use Rattle.std.proofs.Common.{◌≡◌, ℤ, Bool, [], ◌∷◌, ◌++◌, IsTrue, ap, ◌∙◌}
use Rattle.sqlite.specs.Effect.{IsDatabase}
use Rattle.sqlite.specs.State.{State}
use Rattle.plan_rows.specs.World.{Published, Desk, Plan, Bind, Lag, World}
use Rattle.plan_rows.specs.Changes.{changed, without}
use Rattle.plan_store.specs.Tables.{store_schema}
use Rattle.plan_store.specs.TableRows.{row_at}
use Rattle.plan_store.specs.Rows.{written_code, read_code, written_desk, read_desk, written_plan, read_plan, written_bind, read_bind, written_lag, read_lag}
use Rattle.plan_store.specs.Stores.{world_of, HoldRows}
use Rattle.plan_store.proofs.EffectLemmas.{Sets}
use Rattle.plan_store.proofs.KeepLemmas.{with_row, with_change, with_none, keeps_row, reads_row, keeps_change, reads_change, keeps_others, reads_others}
use Rattle.plan_store.proofs.TableLemmas.{code_rows, code_world, desk_rows, desk_world, plan_rows, plan_world, bind_rows, bind_world, lag_rows, lag_world}

pub record Steps (old new : State) (change : World → World) : Type 0 where
  pub was_open : IsTrue old.is_open
  pub schema : new.now.schema ≡ store_schema
  pub rows : HoldRows new.now.trees
  pub world : world_of new.now.trees ≡ change (world_of old.now.trees)
  pub sound : IsDatabase new.now

module _ (old new : State) (held : HoldRows old.now.trees) (was_open : IsTrue old.is_open) (sound : IsDatabase new.now) where
  pub code_inserted : (row : Published) → ((n : ℤ) → read_code (row_at written_code (n, row)) ≡ row)
      → Sets store_schema 1 (with_row written_code read_code held.published row) old.now.trees new.now → Steps old new (λ w. record w { published = w.published ++ row ∷ [] })
  code_inserted row good it = record {
    was_open = was_open;
    schema = it.schema_is;
    rows = code_rows (with_row written_code read_code held.published row) held it (keeps_row written_code read_code held.published row good);
    world = code_world (with_row written_code read_code held.published row) held it
        ∙ ap (λ l. record (world_of old.now.trees) { published = l })
        (reads_row written_code read_code held.published row good);
    sound = sound;
  }

  pub code_updated : (p : Published → Bool) (change : Published → Published)
      → ((x : ℤ × Published) → read_code (row_at written_code x) ≡ x.1 → read_code (row_at written_code (x.0, change x.1)) ≡ change x.1)
      → Sets store_schema 1 (with_change written_code read_code held.published p change) old.now.trees new.now → Steps old new (λ w. record w { published = changed p change w.published })
  code_updated p change good it = record {
    was_open = was_open;
    schema = it.schema_is;
    rows = code_rows (with_change written_code read_code held.published p change) held it (keeps_change written_code read_code held.published p change good);
    world = code_world (with_change written_code read_code held.published p change) held it
        ∙ ap (λ l. record (world_of old.now.trees) { published = l })
        (reads_change written_code read_code held.published p change good);
    sound = sound;
  }

  pub desk_inserted : (row : Desk) → ((n : ℤ) → read_desk (row_at written_desk (n, row)) ≡ row)
      → Sets store_schema 3 (with_row written_desk read_desk held.desks row) old.now.trees new.now → Steps old new (λ w. record w { desks = w.desks ++ row ∷ [] })
  desk_inserted row good it = record {
    was_open = was_open;
    schema = it.schema_is;
    rows = desk_rows (with_row written_desk read_desk held.desks row) held it (keeps_row written_desk read_desk held.desks row good);
    world = desk_world (with_row written_desk read_desk held.desks row) held it ∙ ap (λ l. record (world_of old.now.trees) { desks = l }) (reads_row written_desk read_desk held.desks row good);
    sound = sound;
  }

  pub desk_updated : (p : Desk → Bool) (change : Desk → Desk)
      → ((x : ℤ × Desk) → read_desk (row_at written_desk x) ≡ x.1 → read_desk (row_at written_desk (x.0, change x.1)) ≡ change x.1)
      → Sets store_schema 3 (with_change written_desk read_desk held.desks p change) old.now.trees new.now → Steps old new (λ w. record w { desks = changed p change w.desks })
  desk_updated p change good it = record {
    was_open = was_open;
    schema = it.schema_is;
    rows = desk_rows (with_change written_desk read_desk held.desks p change) held it (keeps_change written_desk read_desk held.desks p change good);
    world = desk_world (with_change written_desk read_desk held.desks p change) held it
        ∙ ap (λ l. record (world_of old.now.trees) { desks = l })
        (reads_change written_desk read_desk held.desks p change good);
    sound = sound;
  }

  pub plan_inserted : (row : Plan) → ((n : ℤ) → read_plan (row_at written_plan (n, row)) ≡ row)
      → Sets store_schema 5 (with_row written_plan read_plan held.plans row) old.now.trees new.now → Steps old new (λ w. record w { plans = w.plans ++ row ∷ [] })
  plan_inserted row good it = record {
    was_open = was_open;
    schema = it.schema_is;
    rows = plan_rows (with_row written_plan read_plan held.plans row) held it (keeps_row written_plan read_plan held.plans row good);
    world = plan_world (with_row written_plan read_plan held.plans row) held it ∙ ap (λ l. record (world_of old.now.trees) { plans = l }) (reads_row written_plan read_plan held.plans row good);
    sound = sound;
  }

  pub plan_updated : (p : Plan → Bool) (change : Plan → Plan)
      → ((x : ℤ × Plan) → read_plan (row_at written_plan x) ≡ x.1 → read_plan (row_at written_plan (x.0, change x.1)) ≡ change x.1)
      → Sets store_schema 5 (with_change written_plan read_plan held.plans p change) old.now.trees new.now → Steps old new (λ w. record w { plans = changed p change w.plans })
  plan_updated p change good it = record {
    was_open = was_open;
    schema = it.schema_is;
    rows = plan_rows (with_change written_plan read_plan held.plans p change) held it (keeps_change written_plan read_plan held.plans p change good);
    world = plan_world (with_change written_plan read_plan held.plans p change) held it
        ∙ ap (λ l. record (world_of old.now.trees) { plans = l })
        (reads_change written_plan read_plan held.plans p change good);
    sound = sound;
  }

  pub plan_deleted : (p : Plan → Bool)
      → Sets store_schema 5 (with_none written_plan read_plan held.plans p) old.now.trees new.now → Steps old new (λ w. record w { plans = without p w.plans })
  plan_deleted p it = record {
    was_open = was_open;
    schema = it.schema_is;
    rows = plan_rows (with_none written_plan read_plan held.plans p) held it (keeps_others written_plan read_plan held.plans p);
    world = plan_world (with_none written_plan read_plan held.plans p) held it ∙ ap (λ l. record (world_of old.now.trees) { plans = l }) (reads_others written_plan read_plan held.plans p);
    sound = sound;
  }

  pub bind_inserted : (row : Bind) → ((n : ℤ) → read_bind (row_at written_bind (n, row)) ≡ row)
      → Sets store_schema 7 (with_row written_bind read_bind held.binds row) old.now.trees new.now → Steps old new (λ w. record w { binds = w.binds ++ row ∷ [] })
  bind_inserted row good it = record {
    was_open = was_open;
    schema = it.schema_is;
    rows = bind_rows (with_row written_bind read_bind held.binds row) held it (keeps_row written_bind read_bind held.binds row good);
    world = bind_world (with_row written_bind read_bind held.binds row) held it ∙ ap (λ l. record (world_of old.now.trees) { binds = l }) (reads_row written_bind read_bind held.binds row good);
    sound = sound;
  }

  pub bind_updated : (p : Bind → Bool) (change : Bind → Bind)
      → ((x : ℤ × Bind) → read_bind (row_at written_bind x) ≡ x.1 → read_bind (row_at written_bind (x.0, change x.1)) ≡ change x.1)
      → Sets store_schema 7 (with_change written_bind read_bind held.binds p change) old.now.trees new.now → Steps old new (λ w. record w { binds = changed p change w.binds })
  bind_updated p change good it = record {
    was_open = was_open;
    schema = it.schema_is;
    rows = bind_rows (with_change written_bind read_bind held.binds p change) held it (keeps_change written_bind read_bind held.binds p change good);
    world = bind_world (with_change written_bind read_bind held.binds p change) held it
        ∙ ap (λ l. record (world_of old.now.trees) { binds = l })
        (reads_change written_bind read_bind held.binds p change good);
    sound = sound;
  }

  pub bind_deleted : (p : Bind → Bool)
      → Sets store_schema 7 (with_none written_bind read_bind held.binds p) old.now.trees new.now → Steps old new (λ w. record w { binds = without p w.binds })
  bind_deleted p it = record {
    was_open = was_open;
    schema = it.schema_is;
    rows = bind_rows (with_none written_bind read_bind held.binds p) held it (keeps_others written_bind read_bind held.binds p);
    world = bind_world (with_none written_bind read_bind held.binds p) held it ∙ ap (λ l. record (world_of old.now.trees) { binds = l }) (reads_others written_bind read_bind held.binds p);
    sound = sound;
  }

  pub lag_inserted : (row : Lag) → ((n : ℤ) → read_lag (row_at written_lag (n, row)) ≡ row)
      → Sets store_schema 9 (with_row written_lag read_lag held.lags row) old.now.trees new.now → Steps old new (λ w. record w { lags = w.lags ++ row ∷ [] })
  lag_inserted row good it = record {
    was_open = was_open;
    schema = it.schema_is;
    rows = lag_rows (with_row written_lag read_lag held.lags row) held it (keeps_row written_lag read_lag held.lags row good);
    world = lag_world (with_row written_lag read_lag held.lags row) held it ∙ ap (λ l. record (world_of old.now.trees) { lags = l }) (reads_row written_lag read_lag held.lags row good);
    sound = sound;
  }

  pub lag_updated : (p : Lag → Bool) (change : Lag → Lag)
      → ((x : ℤ × Lag) → read_lag (row_at written_lag x) ≡ x.1 → read_lag (row_at written_lag (x.0, change x.1)) ≡ change x.1)
      → Sets store_schema 9 (with_change written_lag read_lag held.lags p change) old.now.trees new.now → Steps old new (λ w. record w { lags = changed p change w.lags })
  lag_updated p change good it = record {
    was_open = was_open;
    schema = it.schema_is;
    rows = lag_rows (with_change written_lag read_lag held.lags p change) held it (keeps_change written_lag read_lag held.lags p change good);
    world = lag_world (with_change written_lag read_lag held.lags p change) held it
        ∙ ap (λ l. record (world_of old.now.trees) { lags = l })
        (reads_change written_lag read_lag held.lags p change good);
    sound = sound;
  }

  pub lag_deleted : (p : Lag → Bool)
      → Sets store_schema 9 (with_none written_lag read_lag held.lags p) old.now.trees new.now → Steps old new (λ w. record w { lags = without p w.lags })
  lag_deleted p it = record {
    was_open = was_open;
    schema = it.schema_is;
    rows = lag_rows (with_none written_lag read_lag held.lags p) held it (keeps_others written_lag read_lag held.lags p);
    world = lag_world (with_none written_lag read_lag held.lags p) held it ∙ ap (λ l. record (world_of old.now.trees) { lags = l }) (reads_others written_lag read_lag held.lags p);
    sound = sound;
  }
