use Rattle.std.proofs.Common.{[], ◌∷◌}
use Rattle.sqlite_value.specs.declared.value.Value.TheVariants.{Text}
use Rattle.sqlite.specs.Held.{state}
use Rattle.plan_store.specs.Rows.{digest_value}
use Rattle.plan_store.proofs.BookCallLemmas.{one_makes, begun}
use Rattle.plan_store.proofs.StatementLemmas.{opens_desk}
use Rattle.plan_store.proofs.WriteMeanings.{open_desk_text}
use Rattle.plan_store.proofs.changes.open_desk_in.Goals as goal

pub returns : goal.returns
returns g c =
    let old = c.args.conn.now in
    c.transact.ensures _ (rw (c.as_bytes.ensures.value, c.as_slice.ensures, c.in_ok-digits.ensures.digits)
    (one_makes g.S.Store old c.requires.ready (open_desk_text, Text c.args.name.now ∷ digest_value c.args.digest.now ∷ []) _
    (λ mid count stands ran. opens_desk (state g.S.Store (begun old))
    (state g.S.Store mid) stands.store.schema stands.store.rows count c.args.name.now c.args.digest.now
    c.digits_of.ensures.known ran) c.requires.kept))
