use Rattle.std.proofs.Common.{[], ◌∷◌}
use Rattle.sqlite_value.specs.declared.value.Value.TheVariants.{Text}
use Rattle.sqlite.specs.Held.{state}
use Rattle.plan_store.specs.Rows.{number_value}
use Rattle.plan_store.proofs.BookCallLemmas.{one_makes, begun}
use Rattle.plan_store.proofs.StatementLemmas.{removes_lag}
use Rattle.plan_store.proofs.WriteMeanings.{remove_lag_text}
use Rattle.plan_store.proofs.changes.drop_lag.Goals as goal

pub returns : goal.returns
returns g c =
    let old = c.args.conn.now in
    c.transact.ensures _ (rw (c.params-to_sql.ensures, c.params-to_sql-2.ensures, c.params-to_sql-3.ensures, c.params-to_sql-4.ensures)
    (one_makes g.S.Store old c.requires.ready (remove_lag_text, Text c.args.desk.now ∷ number_value c.args.n ∷ number_value c.args.from ∷ number_value c.args.to ∷ []) _
    (λ mid count stands ran. removes_lag (state g.S.Store (begun old))
    (state g.S.Store mid) stands.store.schema stands.store.rows count c.args.desk.now c.args.n c.args.from
    c.args.to ran) c.requires.kept))
