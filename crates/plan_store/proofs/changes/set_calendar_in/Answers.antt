use Rattle.std.proofs.Common.{[], ◌∷◌}
use Rattle.sqlite_value.specs.declared.value.Value.TheVariants.{Text}
use Rattle.sqlite.specs.Held.{state}
use Rattle.plan_store.specs.Rows.{number_value}
use Rattle.plan_store.proofs.BookCallLemmas.{one_makes, begun}
use Rattle.plan_store.proofs.StatementLemmas.{sets_calendar}
use Rattle.plan_store.proofs.WriteMeanings.{set_calendar_text}
use Rattle.plan_store.proofs.changes.set_calendar_in.Goals as goal

pub returns : goal.returns
returns g c =
    let old = c.args.conn.now in
    c.transact.ensures _ (rw (c.params-to_sql.ensures, c.params-to_sql-2.ensures, c.params-to_sql-3.ensures, c.params-to_sql-4.ensures, c.in_ok-n.ensures.same)
    (one_makes g.S.Store old c.requires.ready (set_calendar_text, Text c.args.desk.now ∷ number_value c.args.n ∷ Text c.args.start.now ∷ Text c.args.days.now ∷ []) _
    (λ mid count stands ran. sets_calendar (state g.S.Store (begun old))
    (state g.S.Store mid) stands.store.schema stands.store.rows count c.args.desk.now c.args.n
    c.args.start.now c.args.days.now stands.store.rules ran) c.requires.kept))
