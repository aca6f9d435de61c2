use Rattle.std.proofs.Common.{[], ◌∷◌}
use Rattle.sqlite_value.specs.declared.value.Value.TheVariants.{Text}
use Rattle.sqlite.specs.Held.{state}
use Rattle.plan_store.specs.Rows.{number_value}
use Rattle.plan_store.proofs.BookCallLemmas.{one_makes, begun}
use Rattle.plan_store.proofs.StatementLemmas.{resets_lag}
use Rattle.plan_store.proofs.WriteMeanings.{reset_lag_text}
use Rattle.plan_store.proofs.changes.change_lag.Goals as goal

pub returns : goal.returns
returns g c =
    let old = c.args.conn.now in
    c.transact.ensures _ (rw (c.params-to_sql.ensures, c.params-to_sql-2.ensures, c.params-to_sql-3.ensures, c.params-to_sql-4.ensures, c.params-to_sql-5.ensures)
    (one_makes g.S.Store old c.requires.ready (
      reset_lag_text,
      Text c.args.desk.now
          ∷ number_value c.args.row.n ∷ number_value c.args.row.from ∷ number_value c.args.row.to
          ∷ number_value c.args.row.lag ∷ [],
    ) _
    (λ mid count stands ran. resets_lag (state g.S.Store (begun old))
    (state g.S.Store mid) stands.store.schema stands.store.rows count c.args.desk.now c.args.row.n
    c.args.row.from c.args.row.to c.args.row.lag stands.store.rules ran) c.requires.kept))
