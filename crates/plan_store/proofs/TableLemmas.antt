-- The office after a change of one table.
use Rattle.std.proofs.Common.{◌≡◌, List, [], ◌∷◌, map, sym, subst}
use Rattle.sqlite_value.specs.Order.{Row}
use Rattle.sqlite_trees.specs.Tree.{Trees}
use Rattle.sqlite.specs.Effect.{Database}
use Rattle.plan_store.specs.Tables.{store_schema}
use Rattle.plan_store.specs.TableRows.{Keeps}
use Rattle.plan_store.specs.Rows.{written_code, read_code, written_desk, read_desk, written_plan, read_plan, written_bind, read_bind, written_lag, read_lag, meta_row, office_in}
use Rattle.plan_store.specs.Stores.{world_of, HoldRows}
use Rattle.plan_store.proofs.EffectLemmas.{Sets}

meta_kept : (a b : List Row) → b ≡ a → a ≡ meta_row (office_in a) ∷ [] → b ≡ meta_row (office_in b) ∷ []
meta_kept a b e h = subst (λ l. l ≡ meta_row (office_in l) ∷ []) (sym e) h

module _ {old : Trees} {after : Database} (rows : List Row) (held : HoldRows old) where
  module _ (it : Sets store_schema 1 rows old after) where
    pub code_rows : Keeps written_code read_code rows → HoldRows after.trees
    code_rows kept =
        let at_0 = it.others 0 (λ e. cc) (λ e. cc, (λ e. cc, (λ e. cc, (λ e. cc, (λ e. cc, tt))))) in
        let at_3 = it.others 3 (λ e. cc) (λ e. cc, (λ e. cc, (λ e. cc, (λ e. cc, (λ e. cc, tt))))) in
        let at_5 = it.others 5 (λ e. cc) (λ e. cc, (λ e. cc, (λ e. cc, (λ e. cc, (λ e. cc, tt))))) in
        let at_7 = it.others 7 (λ e. cc) (λ e. cc, (λ e. cc, (λ e. cc, (λ e. cc, (λ e. cc, tt))))) in
        let at_9 = it.others 9 (λ e. cc) (λ e. cc, (λ e. cc, (λ e. cc, (λ e. cc, (λ e. cc, tt))))) in
        record {
          meta = meta_kept (old 0) (after.trees 0) at_0 held.meta;
          published = subst (Keeps written_code read_code) (sym it.rows_are) kept;
          desks = subst (Keeps written_desk read_desk) (sym at_3) held.desks;
          plans = subst (Keeps written_plan read_plan) (sym at_5) held.plans;
          binds = subst (Keeps written_bind read_bind) (sym at_7) held.binds;
          lags = subst (Keeps written_lag read_lag) (sym at_9) held.lags;
        }

    pub code_world : world_of after.trees ≡ record (world_of old) { published = map read_code rows }
    code_world =
        let at_0 = it.others 0 (λ e. cc) (λ e. cc, (λ e. cc, (λ e. cc, (λ e. cc, (λ e. cc, tt))))) in
        let at_3 = it.others 3 (λ e. cc) (λ e. cc, (λ e. cc, (λ e. cc, (λ e. cc, (λ e. cc, tt))))) in
        let at_5 = it.others 5 (λ e. cc) (λ e. cc, (λ e. cc, (λ e. cc, (λ e. cc, (λ e. cc, tt))))) in
        let at_7 = it.others 7 (λ e. cc) (λ e. cc, (λ e. cc, (λ e. cc, (λ e. cc, (λ e. cc, tt))))) in
        let at_9 = it.others 9 (λ e. cc) (λ e. cc, (λ e. cc, (λ e. cc, (λ e. cc, (λ e. cc, tt))))) in
        λ i. record {
          office = office_in (at_0 i);
          published = map read_code (it.rows_are i);
          desks = map read_desk (at_3 i);
          plans = map read_plan (at_5 i);
          binds = map read_bind (at_7 i);
          lags = map read_lag (at_9 i);
        }

  module _ (it : Sets store_schema 3 rows old after) where
    pub desk_rows : Keeps written_desk read_desk rows → HoldRows after.trees
    desk_rows kept =
        let at_0 = it.others 0 (λ e. cc) (λ e. cc, (λ e. cc, (λ e. cc, (λ e. cc, (λ e. cc, tt))))) in
        let at_1 = it.others 1 (λ e. cc) (λ e. cc, (λ e. cc, (λ e. cc, (λ e. cc, (λ e. cc, tt))))) in
        let at_5 = it.others 5 (λ e. cc) (λ e. cc, (λ e. cc, (λ e. cc, (λ e. cc, (λ e. cc, tt))))) in
        let at_7 = it.others 7 (λ e. cc) (λ e. cc, (λ e. cc, (λ e. cc, (λ e. cc, (λ e. cc, tt))))) in
        let at_9 = it.others 9 (λ e. cc) (λ e. cc, (λ e. cc, (λ e. cc, (λ e. cc, (λ e. cc, tt))))) in
        record {
          meta = meta_kept (old 0) (after.trees 0) at_0 held.meta;
          published = subst (Keeps written_code read_code) (sym at_1) held.published;
          desks = subst (Keeps written_desk read_desk) (sym it.rows_are) kept;
          plans = subst (Keeps written_plan read_plan) (sym at_5) held.plans;
          binds = subst (Keeps written_bind read_bind) (sym at_7) held.binds;
          lags = subst (Keeps written_lag read_lag) (sym at_9) held.lags;
        }

    pub desk_world : world_of after.trees ≡ record (world_of old) { desks = map read_desk rows }
    desk_world =
        let at_0 = it.others 0 (λ e. cc) (λ e. cc, (λ e. cc, (λ e. cc, (λ e. cc, (λ e. cc, tt))))) in
        let at_1 = it.others 1 (λ e. cc) (λ e. cc, (λ e. cc, (λ e. cc, (λ e. cc, (λ e. cc, tt))))) in
        let at_5 = it.others 5 (λ e. cc) (λ e. cc, (λ e. cc, (λ e. cc, (λ e. cc, (λ e. cc, tt))))) in
        let at_7 = it.others 7 (λ e. cc) (λ e. cc, (λ e. cc, (λ e. cc, (λ e. cc, (λ e. cc, tt))))) in
        let at_9 = it.others 9 (λ e. cc) (λ e. cc, (λ e. cc, (λ e. cc, (λ e. cc, (λ e. cc, tt))))) in
        λ i. record {
          office = office_in (at_0 i);
          published = map read_code (at_1 i);
          desks = map read_desk (it.rows_are i);
          plans = map read_plan (at_5 i);
          binds = map read_bind (at_7 i);
          lags = map read_lag (at_9 i);
        }

  module _ (it : Sets store_schema 5 rows old after) where
    pub plan_rows : Keeps written_plan read_plan rows → HoldRows after.trees
    plan_rows kept =
        let at_0 = it.others 0 (λ e. cc) (λ e. cc, (λ e. cc, (λ e. cc, (λ e. cc, (λ e. cc, tt))))) in
        let at_1 = it.others 1 (λ e. cc) (λ e. cc, (λ e. cc, (λ e. cc, (λ e. cc, (λ e. cc, tt))))) in
        let at_3 = it.others 3 (λ e. cc) (λ e. cc, (λ e. cc, (λ e. cc, (λ e. cc, (λ e. cc, tt))))) in
        let at_7 = it.others 7 (λ e. cc) (λ e. cc, (λ e. cc, (λ e. cc, (λ e. cc, (λ e. cc, tt))))) in
        let at_9 = it.others 9 (λ e. cc) (λ e. cc, (λ e. cc, (λ e. cc, (λ e. cc, (λ e. cc, tt))))) in
        record {
          meta = meta_kept (old 0) (after.trees 0) at_0 held.meta;
          published = subst (Keeps written_code read_code) (sym at_1) held.published;
          desks = subst (Keeps written_desk read_desk) (sym at_3) held.desks;
          plans = subst (Keeps written_plan read_plan) (sym it.rows_are) kept;
          binds = subst (Keeps written_bind read_bind) (sym at_7) held.binds;
          lags = subst (Keeps written_lag read_lag) (sym at_9) held.lags;
        }

    pub plan_world : world_of after.trees ≡ record (world_of old) { plans = map read_plan rows }
    plan_world =
        let at_0 = it.others 0 (λ e. cc) (λ e. cc, (λ e. cc, (λ e. cc, (λ e. cc, (λ e. cc, tt))))) in
        let at_1 = it.others 1 (λ e. cc) (λ e. cc, (λ e. cc, (λ e. cc, (λ e. cc, (λ e. cc, tt))))) in
        let at_3 = it.others 3 (λ e. cc) (λ e. cc, (λ e. cc, (λ e. cc, (λ e. cc, (λ e. cc, tt))))) in
        let at_7 = it.others 7 (λ e. cc) (λ e. cc, (λ e. cc, (λ e. cc, (λ e. cc, (λ e. cc, tt))))) in
        let at_9 = it.others 9 (λ e. cc) (λ e. cc, (λ e. cc, (λ e. cc, (λ e. cc, (λ e. cc, tt))))) in
        λ i. record {
          office = office_in (at_0 i);
          published = map read_code (at_1 i);
          desks = map read_desk (at_3 i);
          plans = map read_plan (it.rows_are i);
          binds = map read_bind (at_7 i);
          lags = map read_lag (at_9 i);
        }

  module _ (it : Sets store_schema 7 rows old after) where
    pub bind_rows : Keeps written_bind read_bind rows → HoldRows after.trees
    bind_rows kept =
        let at_0 = it.others 0 (λ e. cc) (λ e. cc, (λ e. cc, (λ e. cc, (λ e. cc, (λ e. cc, tt))))) in
        let at_1 = it.others 1 (λ e. cc) (λ e. cc, (λ e. cc, (λ e. cc, (λ e. cc, (λ e. cc, tt))))) in
        let at_3 = it.others 3 (λ e. cc) (λ e. cc, (λ e. cc, (λ e. cc, (λ e. cc, (λ e. cc, tt))))) in
        let at_5 = it.others 5 (λ e. cc) (λ e. cc, (λ e. cc, (λ e. cc, (λ e. cc, (λ e. cc, tt))))) in
        let at_9 = it.others 9 (λ e. cc) (λ e. cc, (λ e. cc, (λ e. cc, (λ e. cc, (λ e. cc, tt))))) in
        record {
          meta = meta_kept (old 0) (after.trees 0) at_0 held.meta;
          published = subst (Keeps written_code read_code) (sym at_1) held.published;
          desks = subst (Keeps written_desk read_desk) (sym at_3) held.desks;
          plans = subst (Keeps written_plan read_plan) (sym at_5) held.plans;
          binds = subst (Keeps written_bind read_bind) (sym it.rows_are) kept;
          lags = subst (Keeps written_lag read_lag) (sym at_9) held.lags;
        }

    pub bind_world : world_of after.trees ≡ record (world_of old) { binds = map read_bind rows }
    bind_world =
        let at_0 = it.others 0 (λ e. cc) (λ e. cc, (λ e. cc, (λ e. cc, (λ e. cc, (λ e. cc, tt))))) in
        let at_1 = it.others 1 (λ e. cc) (λ e. cc, (λ e. cc, (λ e. cc, (λ e. cc, (λ e. cc, tt))))) in
        let at_3 = it.others 3 (λ e. cc) (λ e. cc, (λ e. cc, (λ e. cc, (λ e. cc, (λ e. cc, tt))))) in
        let at_5 = it.others 5 (λ e. cc) (λ e. cc, (λ e. cc, (λ e. cc, (λ e. cc, (λ e. cc, tt))))) in
        let at_9 = it.others 9 (λ e. cc) (λ e. cc, (λ e. cc, (λ e. cc, (λ e. cc, (λ e. cc, tt))))) in
        λ i. record {
          office = office_in (at_0 i);
          published = map read_code (at_1 i);
          desks = map read_desk (at_3 i);
          plans = map read_plan (at_5 i);
          binds = map read_bind (it.rows_are i);
          lags = map read_lag (at_9 i);
        }

  module _ (it : Sets store_schema 9 rows old after) where
    pub lag_rows : Keeps written_lag read_lag rows → HoldRows after.trees
    lag_rows kept =
        let at_0 = it.others 0 (λ e. cc) (λ e. cc, (λ e. cc, (λ e. cc, (λ e. cc, (λ e. cc, tt))))) in
        let at_1 = it.others 1 (λ e. cc) (λ e. cc, (λ e. cc, (λ e. cc, (λ e. cc, (λ e. cc, tt))))) in
        let at_3 = it.others 3 (λ e. cc) (λ e. cc, (λ e. cc, (λ e. cc, (λ e. cc, (λ e. cc, tt))))) in
        let at_5 = it.others 5 (λ e. cc) (λ e. cc, (λ e. cc, (λ e. cc, (λ e. cc, (λ e. cc, tt))))) in
        let at_7 = it.others 7 (λ e. cc) (λ e. cc, (λ e. cc, (λ e. cc, (λ e. cc, (λ e. cc, tt))))) in
        record {
          meta = meta_kept (old 0) (after.trees 0) at_0 held.meta;
          published = subst (Keeps written_code read_code) (sym at_1) held.published;
          desks = subst (Keeps written_desk read_desk) (sym at_3) held.desks;
          plans = subst (Keeps written_plan read_plan) (sym at_5) held.plans;
          binds = subst (Keeps written_bind read_bind) (sym at_7) held.binds;
          lags = subst (Keeps written_lag read_lag) (sym it.rows_are) kept;
        }

    pub lag_world : world_of after.trees ≡ record (world_of old) { lags = map read_lag rows }
    lag_world =
        let at_0 = it.others 0 (λ e. cc) (λ e. cc, (λ e. cc, (λ e. cc, (λ e. cc, (λ e. cc, tt))))) in
        let at_1 = it.others 1 (λ e. cc) (λ e. cc, (λ e. cc, (λ e. cc, (λ e. cc, (λ e. cc, tt))))) in
        let at_3 = it.others 3 (λ e. cc) (λ e. cc, (λ e. cc, (λ e. cc, (λ e. cc, (λ e. cc, tt))))) in
        let at_5 = it.others 5 (λ e. cc) (λ e. cc, (λ e. cc, (λ e. cc, (λ e. cc, (λ e. cc, tt))))) in
        let at_7 = it.others 7 (λ e. cc) (λ e. cc, (λ e. cc, (λ e. cc, (λ e. cc, (λ e. cc, tt))))) in
        λ i. record {
          office = office_in (at_0 i);
          published = map read_code (at_1 i);
          desks = map read_desk (at_3 i);
          plans = map read_plan (at_5 i);
          binds = map read_bind (at_7 i);
          lags = map read_lag (it.rows_are i);
        }
