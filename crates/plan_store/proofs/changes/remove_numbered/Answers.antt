use Rattle.std.proofs.Common.{[], ◌∷◌}
use Rattle.sqlite_value.specs.declared.value.Value.TheVariants.{Text}
use Rattle.sqlite.specs.Held.{state}
use Rattle.plan_rows.specs.World.{World, is_plan, is_bind_of, is_lag_of}
use Rattle.plan_rows.specs.Changes.{apply, without, RemovePlan}
use Rattle.plan_store.specs.Rows.{number_value}
use Rattle.plan_store.proofs.BookCallLemmas.{three_make, begun}
use Rattle.plan_store.proofs.StatementLemmas.{removes_plan, removes_binds, removes_lags}
use Rattle.plan_store.proofs.WriteMeanings.{remove_plan_text, remove_binds_text, remove_lags_text}
use Rattle.plan_store.proofs.changes.remove_numbered.Goals as goal

pub returns : goal.returns
returns g c =
    let old = c.args.conn.now in
    let desk = c.args.desk.now in
    let n = c.args.n in
    let given = Text desk ∷ number_value n ∷ [] in
    let f = λ (w : World). record w { plans = without (is_plan desk n) w.plans } in
    let h = λ (w : World). record w { binds = without (is_bind_of desk n) w.binds } in
    let k = λ (w : World). record w { lags = without (is_lag_of desk n) w.lags } in
    c.transact.ensures (apply desk (RemovePlan n)) (rw (c.params-to_sql.ensures, c.params-to_sql-2.ensures)
    (three_make g.S.Store old c.requires.ready (remove_plan_text, given) (remove_binds_text, given) (remove_lags_text, given) f h k
    (λ mid count stands ran. removes_plan (state g.S.Store (begun old)) (state g.S.Store mid) stands.store.schema stands.store.rows count desk n ran)
    (λ mid last count made ran. removes_binds (state g.S.Store mid) (state g.S.Store last) made.schema made.rows count desk n ran)
    (λ mid last count made ran. removes_lags (state g.S.Store mid) (state g.S.Store last) made.schema made.rows count desk n ran) c.requires.kept))
