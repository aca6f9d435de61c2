-- The effect of each statement that writes on the office in the tables.
use Rattle.std.proofs.Common.{◌≡◌, ℕ, ℤ, true, ◌&&◌, ◌==◌, List, [], ◌∷◌, ◌++◌, Ok, None, refl, sym, ap, subst, ◌∙◌, codes, arith}
use Rattle.std.proofs.lemmas.Bool.{and_parts, and_from}
use Rattle.std.proofs.lemmas.Bool.Decides.{nat_tests}
use Rattle.std.proofs.lemmas.Slice.Eq.{bytes_eq-Decides}
use Rattle.sqlite_value.specs.declared.value.Value.{Value}
use Rattle.sqlite_value.specs.declared.value.Value.TheVariants.{Text, Blob}
use Rattle.sqlite_schema.specs.declared.command.Command.TheVariants.{Insert, Update, Delete}
use Rattle.sqlite_schema.specs.declared.command.Source.TheVariants.{Values}
use Rattle.sqlite.specs.Listing.{understood}
use Rattle.sqlite.specs.Does.{Does}
use Rattle.sqlite.specs.State.{State, Executes, mode_of}
use Rattle.sqlite.proofs.Callers.{statement_of, runs_as}
use Rattle.plan_rows.specs.declared.kinds.PlanKind.{PlanKind}
use Rattle.plan_rows.specs.Names.{kind_text, plan_kind_text}
use Rattle.plan_rows.specs.Names.{is_digest}
use Rattle.plan_rows.specs.Changes.{changed, without, with_capacity, with_digest, with_calendar, with_code, with_lag, new_desk, new_plan}
use Rattle.plan_rows.specs.Rules.{IsWorld}
use Rattle.plan_rows.specs.World.{Digest, Published, Desk, Plan, Bind, Lag, same_text, is_code, is_desk, is_plan, is_bind_of, is_bind, is_lag_of, is_lag}
use Rattle.plan_store.specs.Tables as tables
use Rattle.plan_store.specs.Tables.{store_schema}
use Rattle.plan_store.specs.TableRows.{row_at}
use Rattle.plan_store.specs.Rows.{digest_value, number_value, written_code, read_code, written_desk, read_desk, written_plan, read_plan, written_bind, read_bind, written_lag, read_lag}
use Rattle.plan_store.specs.Stores.{world_of, HoldRows}
use Rattle.plan_store.proofs.QueryForms.{alone, is_given}
use Rattle.plan_store.proofs.WriteMeanings.{publish_text, publish_is, publish_plain, publish_terms, republish_text, republish_is, republish_plain}
use Rattle.plan_store.proofs.WriteMeanings.{republish_query, open_desk_text, open_desk_is, open_desk_plain, open_desk_terms, set_key_text, set_key_is}
use Rattle.plan_store.proofs.WriteMeanings.{set_key_plain, set_key_query, raise_text, raise_is, raise_plain, raise_query, add_plan_text, add_plan_is}
use Rattle.plan_store.proofs.WriteMeanings.{add_plan_plain, add_plan_terms, set_calendar_text, set_calendar_is, set_calendar_plain, set_calendar_query}
use Rattle.plan_store.proofs.WriteMeanings.{remove_plan_text, remove_plan_is, remove_plan_plain, remove_plan_query, remove_binds_text, remove_binds_is}
use Rattle.plan_store.proofs.WriteMeanings.{remove_binds_plain, remove_binds_query, remove_lags_text, remove_lags_is, remove_lags_plain, remove_lags_query}
use Rattle.plan_store.proofs.WriteMeanings.{bind_text, bind_is, bind_plain, bind_terms, rebind_text, rebind_is, rebind_plain, rebind_query, set_lag_text}
use Rattle.plan_store.proofs.WriteMeanings.{set_lag_is, set_lag_plain, set_lag_terms, reset_lag_text, reset_lag_is, reset_lag_plain, reset_lag_query}
use Rattle.plan_store.proofs.WriteMeanings.{remove_lag_text, remove_lag_is, remove_lag_plain, remove_lag_query}
use Rattle.plan_store.proofs.EffectLemmas.{insert_sets, update_sets, delete_sets}
use Rattle.plan_store.proofs.KeepLemmas.{few_pass}
use Rattle.plan_store.proofs.CodecLemmas.{code_casts, desk_casts, plan_casts, bind_casts, lag_casts, code_back, desk_back, plan_back, bind_back, lag_back}
use Rattle.plan_store.proofs.CodecLemmas.{code_tested, desk_tested, plan_tested, bind_of_tested, bind_tested, lag_of_tested, lag_tested}
use Rattle.plan_store.proofs.StepLemmas.{Steps, code_inserted, code_updated, desk_inserted, desk_updated, plan_inserted, plan_updated, plan_deleted}
use Rattle.plan_store.proofs.StepLemmas.{bind_inserted, bind_updated, bind_deleted, lag_inserted, lag_updated, lag_deleted}

-- ---- a key names one row

same_both : (a b key : List ℕ) → same_text a key ≡ true → same_text b key ≡ true → same_text a b ≡ true
same_both a b key p q = (bytes_eq-Decides a b).1 ((bytes_eq-Decides a key).0 p ∙ sym ((bytes_eq-Decides b key).0 q))

equal_both : (a b key : ℕ) → (a == key) ≡ true → (b == key) ≡ true → (b == a) ≡ true
equal_both a b key p q = grind (arith, nat_tests)

codes_alike : (code : List ℕ) (a b : Published) → is_code code a ≡ true → is_code code b ≡ true → same_text a.code b.code ≡ true
codes_alike code a b p q = same_both a.code b.code code p q

desks_alike : (desk : List ℕ) (a b : Desk) → is_desk desk a ≡ true → is_desk desk b ≡ true → same_text a.desk b.desk ≡ true
desks_alike desk a b p q = same_both a.desk b.desk desk p q

plans_alike : (desk : List ℕ) (n : ℕ) (a b : Plan) → is_plan desk n a ≡ true → is_plan desk n b ≡ true → is_plan a.desk a.n b ≡ true
plans_alike desk n a b p q =
    let x = and_parts (same_text a.desk desk) (a.n == n) p in
    let y = and_parts (same_text b.desk desk) (b.n == n) q in
    and_from (same_text b.desk a.desk) (b.n == a.n) (same_both b.desk a.desk desk y.0 x.0) (equal_both a.n b.n n x.1 y.1)

binds_alike : (desk : List ℕ) (n place : ℕ) (a b : Bind) → is_bind desk n place a ≡ true → is_bind desk n place b ≡ true → is_bind a.desk a.n a.place b ≡ true
binds_alike desk n place a b p q =
    let x = and_parts (is_bind_of desk n a) (a.place == place) p in
    let y = and_parts (is_bind_of desk n b) (b.place == place) q in
    let u = and_parts (same_text a.desk desk) (a.n == n) x.0 in
    let v = and_parts (same_text b.desk desk) (b.n == n) y.0 in
    and_from (is_bind_of a.desk a.n b) (b.place == a.place) (and_from (same_text b.desk a.desk) (b.n == a.n) (same_both b.desk a.desk desk v.0 u.0) (equal_both a.n b.n n u.1 v.1))
    (equal_both a.place b.place place x.1 y.1)

lags_alike : (desk : List ℕ) (n source target : ℕ) (a b : Lag) → is_lag desk n source target a ≡ true → is_lag desk n source target b ≡ true → is_lag a.desk a.n a.source a.target b ≡ true
lags_alike desk n source target a b p q =
    let x = and_parts (is_lag_of desk n a) ((a.source == source) && (a.target == target)) p in
    let y = and_parts (is_lag_of desk n b) ((b.source == source) && (b.target == target)) q in
    let u = and_parts (same_text a.desk desk) (a.n == n) x.0 in
    let v = and_parts (same_text b.desk desk) (b.n == n) y.0 in
    let s = and_parts (a.source == source) (a.target == target) x.1 in
    let t = and_parts (b.source == source) (b.target == target) y.1 in
    and_from (is_lag_of a.desk a.n b) ((b.source == a.source) && (b.target == a.target))
    (and_from (same_text b.desk a.desk) (b.n == a.n) (same_both b.desk a.desk desk v.0 u.0) (equal_both a.n b.n n u.1 v.1))
    (and_from (b.source == a.source) (b.target == a.target) (equal_both a.source b.source source s.0 t.0) (equal_both a.target b.target target s.1 t.1))

-- ---- the statements

module _ (old new : State) (has : old.now.schema ≡ store_schema) (held : HoldRows old.now.trees) (count : ℕ) where
  pub publishes : (row : Published) → Executes publish_text
      (Text row.code ∷ Text (kind_text row.kind) ∷ number_value row.capacity ∷ []) old new (Ok count) →
      Steps old new (λ w. record w { published = w.published ++ row ∷ [] })
  publishes row h =
      let given = Text row.code ∷ Text (kind_text row.kind) ∷ number_value row.capacity ∷ [] in
      let w = runs_as publish_text given old new store_schema has (Insert 1 (Values publish_terms 4)) publish_is publish_plain count h in
      let done = subst (λ s. Does old.step_limit (mode_of old) given (record old.now { schema = s })
      (statement_of publish_text (understood store_schema publish_text)) None
      (Insert 1 (Values publish_terms 4)) (Ok (w.tally, new.now))) has w.changed in
      code_inserted old new held w.shown.was_open w.sound (row) (code_back row)
      (insert_sets store_schema old.step_limit (mode_of old) (codes "published") 1
      (1 ∷ []) tables.published.columns (λ _ _. refl) written_code code_casts old.now.trees
      held.published.entries held.published.are held.published.rise given 1 publish_terms 4 (row) refl
      (w.tally, new.now) done)

  pub republishes : (code : List ℕ) (capacity : ℕ) → IsWorld (world_of old.now.trees) →
      Executes republish_text (Text code ∷ number_value capacity ∷ []) old new (Ok count) →
      Steps old new (λ w. record w {
        published = changed (is_code code)
            (with_capacity capacity) w.published;
      })
  republishes code capacity rules h =
      let given = Text code ∷ number_value capacity ∷ [] in
      let w = runs_as republish_text given old new store_schema has (Update 1 (alone republish_query)) republish_is republish_plain count h in
      let done = subst (λ s. Does old.step_limit (mode_of old) given (record old.now { schema = s })
      (statement_of republish_text (understood store_schema republish_text)) None
      (Update 1 (alone republish_query)) (Ok (w.tally, new.now))) has w.changed in
      code_updated old new held w.shown.was_open w.sound (is_code code) (with_capacity capacity) (λ x back. code_back (with_capacity capacity x.1) x.0)
      (update_sets store_schema old.step_limit (mode_of old) (codes "published") 1
      (1 ∷ []) tables.published.columns (λ _ _. refl) written_code code_casts old.now.trees
      held.published.entries held.published.are held.published.rise given (is_given 1 0 ∷ [])
      (λ x. is_code code x.1) (code_tested code (number_value capacity ∷ [])) refl 1
      republish_query.project (with_capacity capacity) (λ x. refl)
      (few_pass written_code read_code held.published (is_code code) _ (codes_alike code) rules.codes_differ) (w.tally, new.now) done)

  pub opens_desk : (desk : List ℕ) (digest : Digest) → is_digest digest ≡ true →
      Executes open_desk_text (Text desk ∷ digest_value digest ∷ []) old new (Ok count) →
      Steps old new (λ w. record w { desks = w.desks ++ new_desk desk digest ∷ [] })
  opens_desk desk digest good h =
      let given = Text desk ∷ digest_value digest ∷ [] in
      let w = runs_as open_desk_text given old new store_schema has (Insert 2 (Values open_desk_terms 4)) open_desk_is open_desk_plain count h in
      let done = subst (λ s. Does old.step_limit (mode_of old) given (record old.now { schema = s })
      (statement_of open_desk_text (understood store_schema open_desk_text)) None
      (Insert 2 (Values open_desk_terms 4)) (Ok (w.tally, new.now))) has w.changed in
      desk_inserted old new held w.shown.was_open w.sound (new_desk desk digest) (desk_back (new_desk desk digest) good)
      (insert_sets store_schema old.step_limit (mode_of old) (codes "desks") 3 (1 ∷ []) tables.desks.columns
      (λ _ _. refl) written_desk desk_casts old.now.trees held.desks.entries held.desks.are
      held.desks.rise given 2 open_desk_terms 4 (new_desk desk digest) refl (w.tally, new.now) done)

  pub sets_key : (desk : List ℕ) (digest : Digest) → is_digest digest ≡ true →
      IsWorld (world_of old.now.trees) → Executes set_key_text (Text desk ∷ digest_value digest ∷ []) old new
      (Ok count) → Steps old new (λ w. record w {
        desks =
            changed (is_desk desk) (with_digest digest) w.desks;
      })
  sets_key desk digest good rules h =
      let given = Text desk ∷ digest_value digest ∷ [] in
      let w = runs_as set_key_text given old new store_schema has (Update 2 (alone set_key_query)) set_key_is set_key_plain count h in
      let done = subst (λ s. Does old.step_limit (mode_of old) given (record old.now { schema = s })
      (statement_of set_key_text (understood store_schema set_key_text)) None
      (Update 2 (alone set_key_query)) (Ok (w.tally, new.now))) has w.changed in
      desk_updated old new held w.shown.was_open w.sound (is_desk desk) (with_digest digest) (λ x back. desk_back (with_digest digest x.1) good x.0)
      (update_sets store_schema old.step_limit (mode_of old) (codes "desks") 3 (1 ∷ []) tables.desks.columns
      (λ _ _. refl) written_desk desk_casts old.now.trees held.desks.entries held.desks.are
      held.desks.rise given (is_given 1 0 ∷ []) (λ x. is_desk desk x.1)
      (desk_tested desk (digest_value digest ∷ [])) refl 2 set_key_query.project (with_digest digest)
      (λ x. refl)
      (few_pass written_desk read_desk held.desks (is_desk desk) _ (desks_alike desk) rules.desks_differ) (w.tally, new.now) done)

  desk_back_at : (x : ℤ × Desk) (next : ℕ) → read_desk (row_at written_desk x) ≡ x.1 → read_desk (row_at written_desk (x.0, record x.1 { next = next })) ≡ record x.1 { next = next }
  desk_back_at x next back = ap (λ (row : Desk). record x.1 { digest = row.digest; next = next }) back

  pub raises : (desk : List ℕ) (next : ℕ) (a b c d : Value) → IsWorld (world_of old.now.trees) →
      Executes raise_text (Text desk ∷ a ∷ b ∷ c ∷ d ∷ number_value next ∷ []) old new (Ok count) →
      Steps old new (λ w. record w {
        desks = changed (is_desk desk)
            (λ row. record row { next = next }) w.desks;
      })
  raises desk next a b c d rules h =
      let given = Text desk ∷ a ∷ b ∷ c ∷ d ∷ number_value next ∷ [] in
      let w = runs_as raise_text given old new store_schema has (Update 2 (alone raise_query)) raise_is raise_plain count h in
      let done = subst (λ s. Does old.step_limit (mode_of old) given (record old.now { schema = s })
      (statement_of raise_text (understood store_schema raise_text)) None (Update 2 (alone raise_query))
      (Ok (w.tally, new.now))) has w.changed in
      desk_updated old new held w.shown.was_open w.sound (is_desk desk) (λ row. record row { next = next }) (λ x back. desk_back_at x next back)
      (update_sets store_schema old.step_limit (mode_of old) (codes "desks") 3 (1 ∷ []) tables.desks.columns
      (λ _ _. refl) written_desk desk_casts old.now.trees held.desks.entries held.desks.are
      held.desks.rise given (is_given 1 0 ∷ []) (λ x. is_desk desk x.1)
      (desk_tested desk (a ∷ b ∷ c ∷ d ∷ number_value next ∷ [])) refl 2 raise_query.project
      (λ row. record row { next = next }) (λ x. refl)
      (few_pass written_desk read_desk held.desks (is_desk desk) _ (desks_alike desk) rules.desks_differ) (w.tally, new.now) done)

  pub adds_plan : (desk : List ℕ) (n : ℕ) (kind : PlanKind) (name body : List ℕ) →
      Executes add_plan_text (Text desk ∷ number_value n ∷ Text (plan_kind_text kind) ∷ Text name ∷ Blob body
      ∷ []) old new (Ok count) → Steps old new (λ w. record w
      { plans = w.plans ++ new_plan desk n kind name body ∷ [] })
  adds_plan desk n kind name body h =
      let given = Text desk ∷ number_value n ∷ Text (plan_kind_text kind) ∷ Text name ∷ Blob body ∷ [] in
      let w = runs_as add_plan_text given old new store_schema has (Insert 3 (Values add_plan_terms 8)) add_plan_is add_plan_plain count h in
      let done = subst (λ s. Does old.step_limit (mode_of old) given (record old.now { schema = s })
      (statement_of add_plan_text (understood store_schema add_plan_text)) None
      (Insert 3 (Values add_plan_terms 8)) (Ok (w.tally, new.now))) has w.changed in
      plan_inserted old new held w.shown.was_open w.sound (new_plan desk n kind name body) (plan_back (new_plan desk n kind name body))
      (insert_sets store_schema old.step_limit (mode_of old) (codes "plans") 5
      (1 ∷ 2 ∷ []) tables.plans.columns (λ _ _. refl) written_plan plan_casts old.now.trees
      held.plans.entries held.plans.are held.plans.rise given 3 add_plan_terms 8
      (new_plan desk n kind name body) refl (w.tally, new.now) done)

  pub sets_calendar : (desk : List ℕ) (n : ℕ) (start days : List ℕ) → IsWorld (world_of old.now.trees) →
      Executes set_calendar_text (Text desk ∷ number_value n ∷ Text start ∷ Text days ∷ []) old new
      (Ok count) → Steps old new (λ w. record w {
        plans =
            changed (is_plan desk n) (with_calendar start days) w.plans;
      })
  sets_calendar desk n start days rules h =
      let given = Text desk ∷ number_value n ∷ Text start ∷ Text days ∷ [] in
      let w = runs_as set_calendar_text given old new store_schema has (Update 3 (alone set_calendar_query)) set_calendar_is set_calendar_plain count h in
      let done = subst (λ s. Does old.step_limit (mode_of old) given (record old.now { schema = s })
      (statement_of set_calendar_text (understood store_schema set_calendar_text)) None
      (Update 3 (alone set_calendar_query)) (Ok (w.tally, new.now))) has w.changed in
      plan_updated old new held w.shown.was_open w.sound (is_plan desk n) (with_calendar start days) (λ x back. plan_back (with_calendar start days x.1) x.0)
      (update_sets store_schema old.step_limit (mode_of old) (codes "plans") 5
      (1 ∷ 2 ∷ []) tables.plans.columns (λ _ _. refl) written_plan plan_casts old.now.trees
      held.plans.entries held.plans.are held.plans.rise given (is_given 1 0 ∷ is_given 2 1 ∷ [])
      (λ x. is_plan desk n x.1) (plan_tested desk n (Text start ∷ Text days ∷ [])) refl 3
      set_calendar_query.project (with_calendar start days) (λ x. refl)
      (few_pass written_plan read_plan held.plans (is_plan desk n) _ (plans_alike desk n) rules.plans_differ) (w.tally, new.now) done)

  pub removes_plan : (desk : List ℕ) (n : ℕ) → Executes remove_plan_text
      (Text desk ∷ number_value n ∷ []) old new (Ok count) →
      Steps old new (λ w. record w { plans = without (is_plan desk n) w.plans })
  removes_plan desk n h =
      let given = Text desk ∷ number_value n ∷ [] in
      let w = runs_as remove_plan_text given old new store_schema has (Delete 3 (alone remove_plan_query)) remove_plan_is remove_plan_plain count h in
      let done = subst (λ s. Does old.step_limit (mode_of old) given (record old.now { schema = s })
      (statement_of remove_plan_text (understood store_schema remove_plan_text)) None
      (Delete 3 (alone remove_plan_query)) (Ok (w.tally, new.now))) has w.changed in
      plan_deleted old new held w.shown.was_open w.sound (is_plan desk n)
      (delete_sets store_schema old.step_limit (mode_of old) (codes "plans") 5
      (1 ∷ 2 ∷ []) tables.plans.columns (λ _ _. refl) written_plan plan_casts old.now.trees
      held.plans.entries held.plans.are held.plans.rise given (is_given 1 0 ∷ is_given 2 1 ∷ [])
      (λ x. is_plan desk n x.1) (plan_tested desk n []) refl 3 (w.tally, new.now) done)

  pub removes_binds : (desk : List ℕ) (n : ℕ) → Executes remove_binds_text
      (Text desk ∷ number_value n ∷ []) old new (Ok count) →
      Steps old new (λ w. record w { binds = without (is_bind_of desk n) w.binds })
  removes_binds desk n h =
      let given = Text desk ∷ number_value n ∷ [] in
      let w = runs_as remove_binds_text given old new store_schema has (Delete 4 (alone remove_binds_query)) remove_binds_is remove_binds_plain count h in
      let done = subst (λ s. Does old.step_limit (mode_of old) given (record old.now { schema = s })
      (statement_of remove_binds_text (understood store_schema remove_binds_text)) None
      (Delete 4 (alone remove_binds_query)) (Ok (w.tally, new.now))) has w.changed in
      bind_deleted old new held w.shown.was_open w.sound (is_bind_of desk n)
      (delete_sets store_schema old.step_limit (mode_of old) (codes "binds") 7
      (1 ∷ 2 ∷ 3 ∷ []) tables.binds.columns (λ _ _. refl) written_bind bind_casts old.now.trees
      held.binds.entries held.binds.are held.binds.rise given (is_given 1 0 ∷ is_given 2 1 ∷ [])
      (λ x. is_bind_of desk n x.1) (bind_of_tested desk n []) refl 4 (w.tally, new.now) done)

  pub removes_lags : (desk : List ℕ) (n : ℕ) → Executes remove_lags_text
      (Text desk ∷ number_value n ∷ []) old new (Ok count) →
      Steps old new (λ w. record w { lags = without (is_lag_of desk n) w.lags })
  removes_lags desk n h =
      let given = Text desk ∷ number_value n ∷ [] in
      let w = runs_as remove_lags_text given old new store_schema has (Delete 5 (alone remove_lags_query)) remove_lags_is remove_lags_plain count h in
      let done = subst (λ s. Does old.step_limit (mode_of old) given (record old.now { schema = s })
      (statement_of remove_lags_text (understood store_schema remove_lags_text)) None
      (Delete 5 (alone remove_lags_query)) (Ok (w.tally, new.now))) has w.changed in
      lag_deleted old new held w.shown.was_open w.sound (is_lag_of desk n)
      (delete_sets store_schema old.step_limit (mode_of old) (codes "lags") 9
      (1 ∷ 2 ∷ 3 ∷ 4 ∷ []) tables.lags.columns
      (λ _ _. refl) written_lag lag_casts old.now.trees held.lags.entries held.lags.are held.lags.rise
      given (is_given 1 0 ∷ is_given 2 1 ∷ []) (λ x. is_lag_of desk n x.1)
      (lag_of_tested desk n []) refl 5 (w.tally, new.now) done)

  pub binds_place : (row : Bind) → Executes bind_text
      (Text row.desk ∷ number_value row.n ∷ number_value row.place ∷ Text row.code ∷ []) old new (Ok count) →
      Steps old new (λ w. record w { binds = w.binds ++ row ∷ [] })
  binds_place row h =
      let given = Text row.desk ∷ number_value row.n ∷ number_value row.place ∷ Text row.code ∷ [] in
      let w = runs_as bind_text given old new store_schema has (Insert 4 (Values bind_terms 5)) bind_is bind_plain count h in
      let done = subst (λ s. Does old.step_limit (mode_of old) given (record old.now { schema = s })
      (statement_of bind_text (understood store_schema bind_text)) None (Insert 4 (Values bind_terms 5))
      (Ok (w.tally, new.now))) has w.changed in
      bind_inserted old new held w.shown.was_open w.sound (row) (bind_back row)
      (insert_sets store_schema old.step_limit (mode_of old) (codes "binds") 7
      (1 ∷ 2 ∷ 3 ∷ []) tables.binds.columns (λ _ _. refl) written_bind bind_casts old.now.trees
      held.binds.entries held.binds.are held.binds.rise given 4 bind_terms 5 (row) refl
      (w.tally, new.now) done)

  pub rebinds : (desk : List ℕ) (n place : ℕ) (code : List ℕ) → IsWorld (world_of old.now.trees) →
      Executes rebind_text (Text desk ∷ number_value n ∷ number_value place ∷ Text code ∷ []) old new
      (Ok count) → Steps old new (λ w. record w {
        binds =
            changed (is_bind desk n place) (with_code code) w.binds;
      })
  rebinds desk n place code rules h =
      let given = Text desk ∷ number_value n ∷ number_value place ∷ Text code ∷ [] in
      let w = runs_as rebind_text given old new store_schema has (Update 4 (alone rebind_query)) rebind_is rebind_plain count h in
      let done = subst (λ s. Does old.step_limit (mode_of old) given (record old.now { schema = s })
      (statement_of rebind_text (understood store_schema rebind_text)) None
      (Update 4 (alone rebind_query)) (Ok (w.tally, new.now))) has w.changed in
      bind_updated old new held w.shown.was_open w.sound (is_bind desk n place) (with_code code) (λ x back. bind_back (with_code code x.1) x.0)
      (update_sets store_schema old.step_limit (mode_of old) (codes "binds") 7
      (1 ∷ 2 ∷ 3 ∷ []) tables.binds.columns (λ _ _. refl) written_bind bind_casts old.now.trees
      held.binds.entries held.binds.are held.binds.rise given
      (is_given 1 0 ∷ is_given 2 1 ∷ is_given 3 2 ∷ []) (λ x. is_bind desk n place x.1)
      (bind_tested desk n place (Text code ∷ [])) refl 4 rebind_query.project (with_code code) (λ x. refl)
      (few_pass written_bind read_bind held.binds (is_bind desk n place) _ (binds_alike desk n place) rules.binds_differ) (w.tally, new.now) done)

  pub sets_lag : (row : Lag) → Executes set_lag_text
      (Text row.desk ∷ number_value row.n ∷ number_value row.source ∷ number_value row.target
      ∷ number_value row.lag ∷ []) old new (Ok count) →
      Steps old new (λ w. record w { lags = w.lags ++ row ∷ [] })
  sets_lag row h =
      let given = Text row.desk ∷ number_value row.n ∷ number_value row.source ∷ number_value row.target ∷ number_value row.lag ∷ [] in
      let w = runs_as set_lag_text given old new store_schema has (Insert 5 (Values set_lag_terms 6)) set_lag_is set_lag_plain count h in
      let done = subst (λ s. Does old.step_limit (mode_of old) given (record old.now { schema = s })
      (statement_of set_lag_text (understood store_schema set_lag_text)) None
      (Insert 5 (Values set_lag_terms 6)) (Ok (w.tally, new.now))) has w.changed in
      lag_inserted old new held w.shown.was_open w.sound (row) (lag_back row)
      (insert_sets store_schema old.step_limit (mode_of old) (codes "lags") 9
      (1 ∷ 2 ∷ 3 ∷ 4 ∷ []) tables.lags.columns
      (λ _ _. refl) written_lag lag_casts old.now.trees held.lags.entries held.lags.are held.lags.rise
      given 5 set_lag_terms 6 (row) refl (w.tally, new.now) done)

  pub resets_lag : (desk : List ℕ) (n source target lag : ℕ) → IsWorld (world_of old.now.trees) →
      Executes reset_lag_text (Text desk ∷ number_value n ∷ number_value source ∷ number_value target
      ∷ number_value lag ∷ []) old new (Ok count) →
      Steps old new (λ w. record w { lags = changed (is_lag desk n source target) (with_lag lag) w.lags })
  resets_lag desk n source target lag rules h =
      let given = Text desk ∷ number_value n ∷ number_value source ∷ number_value target ∷ number_value lag ∷ [] in
      let w = runs_as reset_lag_text given old new store_schema has (Update 5 (alone reset_lag_query)) reset_lag_is reset_lag_plain count h in
      let done = subst (λ s. Does old.step_limit (mode_of old) given (record old.now { schema = s })
      (statement_of reset_lag_text (understood store_schema reset_lag_text)) None
      (Update 5 (alone reset_lag_query)) (Ok (w.tally, new.now))) has w.changed in
      lag_updated old new held w.shown.was_open w.sound (is_lag desk n source target) (with_lag lag) (λ x back. lag_back (with_lag lag x.1) x.0)
      (update_sets store_schema old.step_limit (mode_of old) (codes "lags") 9
      (1 ∷ 2 ∷ 3 ∷ 4 ∷ []) tables.lags.columns
      (λ _ _. refl) written_lag lag_casts old.now.trees held.lags.entries held.lags.are held.lags.rise
      given (is_given 1 0 ∷ is_given 2 1 ∷ is_given 3 2 ∷ is_given 4 3 ∷ [])
      (λ x. is_lag desk n source target x.1) (lag_tested desk n source target (number_value lag ∷ []))
      refl 5 reset_lag_query.project (with_lag lag) (λ x. refl)
      (few_pass written_lag read_lag held.lags (is_lag desk n source target) _ (lags_alike desk n source target) rules.lags_differ) (w.tally, new.now) done)

  pub removes_lag : (desk : List ℕ) (n source target : ℕ) →
      Executes remove_lag_text (Text desk ∷ number_value n ∷ number_value source ∷ number_value target ∷ [])
      old new (Ok count) → Steps old new (λ w. record w
      { lags = without (is_lag desk n source target) w.lags })
  removes_lag desk n source target h =
      let given = Text desk ∷ number_value n ∷ number_value source ∷ number_value target ∷ [] in
      let w = runs_as remove_lag_text given old new store_schema has (Delete 5 (alone remove_lag_query)) remove_lag_is remove_lag_plain count h in
      let done = subst (λ s. Does old.step_limit (mode_of old) given (record old.now { schema = s })
      (statement_of remove_lag_text (understood store_schema remove_lag_text)) None
      (Delete 5 (alone remove_lag_query)) (Ok (w.tally, new.now))) has w.changed in
      lag_deleted old new held w.shown.was_open w.sound (is_lag desk n source target)
      (delete_sets store_schema old.step_limit (mode_of old) (codes "lags") 9
      (1 ∷ 2 ∷ 3 ∷ 4 ∷ []) tables.lags.columns
      (λ _ _. refl) written_lag lag_casts old.now.trees held.lags.entries held.lags.are held.lags.rise
      given (is_given 1 0 ∷ is_given 2 1 ∷ is_given 3 2 ∷ is_given 4 3 ∷ [])
      (λ x. is_lag desk n source target x.1) (lag_tested desk n source target []) refl 5
      (w.tally, new.now) done)
