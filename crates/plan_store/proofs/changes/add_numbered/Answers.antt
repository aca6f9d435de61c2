use Rattle.std.proofs.Common.{[], ◌∷◌, ◌++◌, ◌+◌}
use Rattle.sqlite_value.specs.declared.value.Value.TheVariants.{Text, Blob}
use Rattle.sqlite.specs.Held.{state}
use Rattle.plan_rows.specs.Names.{plan_kind_text}
use Rattle.plan_rows.specs.World.{World, is_desk}
use Rattle.plan_rows.specs.Changes.{changed, new_plan}
use Rattle.plan_store.specs.BookCalls.{numbered_plan}
use Rattle.plan_store.specs.Rows.{number_value}
use Rattle.plan_store.proofs.BookCallLemmas.{two_make, begun}
use Rattle.plan_store.proofs.StatementLemmas.{raises, adds_plan}
use Rattle.plan_store.proofs.WriteMeanings.{raise_text, add_plan_text}
use Rattle.plan_store.proofs.changes.add_numbered.Goals as goal

pub returns : goal.returns
returns g c =
    let old = c.args.conn.now in
    let desk = c.args.desk.now in
    let n = c.args.n in
    let kind = c.args.kind in
    let name = c.args.name.now in
    let body = c.args.body.now in
    let kept = Text (plan_kind_text kind) in
    let f = λ (w : World). record w { desks = changed (is_desk desk) (λ row. record row { next = n + 1 }) w.desks } in
    let h = λ (w : World). record w { plans = w.plans ++ new_plan desk n kind name body ∷ [] } in
    c.transact.ensures (numbered_plan desk n kind name body)
    (rw (
      c.params-to_sql.ensures,
      c.params-to_sql-2.ensures,
      c.params-to_sql-3.ensures,
      c.params-to_sql-4.ensures,
      c.params-to_sql-5.ensures,
      c.params-to_sql-6.ensures,
      c.word.ensures,
      c.in_ok-next.ensures.next,
    )
    (two_make g.S.Store old c.requires.ready (raise_text, Text desk ∷ number_value n ∷ kept ∷ Text name ∷ Blob body ∷ number_value (n + 1) ∷ [])
    (add_plan_text, Text desk ∷ number_value n ∷ kept ∷ Text name ∷ Blob body ∷ []) f h
    (λ mid count stands ran. raises (state g.S.Store (begun old))
    (state g.S.Store mid) stands.store.schema stands.store.rows count desk (n + 1) (number_value n) kept
    (Text name) (Blob body) stands.store.rules ran)
    (λ mid last count made ran. adds_plan (state g.S.Store mid) (state g.S.Store last) made.schema made.rows count desk n kind name body ran) c.requires.kept))
