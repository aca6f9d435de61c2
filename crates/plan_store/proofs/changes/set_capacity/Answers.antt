use Rattle.std.proofs.Common.{[], ◌∷◌}
use Rattle.sqlite_value.specs.declared.value.Value.TheVariants.{Text}
use Rattle.sqlite.specs.Held.{state}
use Rattle.plan_store.specs.Rows.{number_value}
use Rattle.plan_store.proofs.BookCallLemmas.{one_makes, begun}
use Rattle.plan_store.proofs.StatementLemmas.{republishes}
use Rattle.plan_store.proofs.WriteMeanings.{republish_text}
use Rattle.plan_store.proofs.changes.set_capacity.Goals as goal

pub returns : goal.returns
returns g c =
    let old = c.args.conn.now in
    c.transact.ensures _ (rw (c.params-to_sql.ensures, c.params-to_sql-2.ensures)
    (one_makes g.S.Store old c.requires.ready (republish_text, Text c.args.code.now ∷ number_value c.args.capacity ∷ []) _
    (λ mid count stands ran. republishes (state g.S.Store (begun old))
    (state g.S.Store mid) stands.store.schema stands.store.rows count c.args.code.now c.args.capacity
    stands.store.rules ran) c.requires.kept))
