use Rattle.std.proofs.Common.{[], ◌∷◌}
use Rattle.sqlite_value.specs.declared.value.Value.TheVariants.{Text}
use Rattle.sqlite.specs.Held.{state}
use Rattle.plan_rows.specs.Changes.{new_bind}
use Rattle.plan_store.specs.Rows.{number_value}
use Rattle.plan_store.proofs.BookCallLemmas.{one_makes, begun}
use Rattle.plan_store.proofs.StatementLemmas.{binds_place}
use Rattle.plan_store.proofs.WriteMeanings.{bind_text}
use Rattle.plan_store.proofs.changes.add_bind.Goals as goal

pub returns : goal.returns
returns g c =
    let old = c.args.conn.now in
    c.transact.ensures _ (rw (c.params-to_sql.ensures, c.params-to_sql-2.ensures, c.params-to_sql-3.ensures, c.params-to_sql-4.ensures)
    (one_makes g.S.Store old c.requires.ready (bind_text, Text c.args.desk.now ∷ number_value c.args.n ∷ number_value c.args.place ∷ Text c.args.code.now ∷ []) _
    (λ mid count stands ran. binds_place (state g.S.Store (begun old))
    (state g.S.Store mid) stands.store.schema stands.store.rows count
    (new_bind c.args.desk.now c.args.n c.args.place c.args.code.now) ran) c.requires.kept))
