use Rattle.std.proofs.Common.{[], ◌∷◌}
use Rattle.sqlite_value.specs.declared.value.Value.TheVariants.{Text}
use Rattle.sqlite.specs.Held.{state}
use Rattle.plan_rows.specs.Names.{kind_text}
use Rattle.plan_rows.specs.Changes.{new_code}
use Rattle.plan_store.specs.Rows.{number_value}
use Rattle.plan_store.proofs.BookCallLemmas.{one_makes, begun}
use Rattle.plan_store.proofs.StatementLemmas.{publishes}
use Rattle.plan_store.proofs.WriteMeanings.{publish_text}
use Rattle.plan_store.proofs.changes.add_code.Goals as goal

pub returns : goal.returns
returns g c =
    let old = c.args.conn.now in
    c.transact.ensures _ (rw (c.params-to_sql.ensures, c.params-to_sql-2.ensures, c.params-to_sql-3.ensures, c.word.ensures)
    (one_makes g.S.Store old c.requires.ready (publish_text, Text c.args.code.now ∷ Text (kind_text c.args.kind) ∷ number_value c.args.capacity ∷ []) _
    (λ mid count stands ran. publishes (state g.S.Store (begun old))
    (state g.S.Store mid) stands.store.schema stands.store.rows count
    (new_code c.args.code.now c.args.kind c.args.capacity) ran) c.requires.kept))
