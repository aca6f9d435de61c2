use Rattle.std.proofs.Common.{[], ◌∷◌}
use Rattle.sqlite_value.specs.declared.value.Value.TheVariants.{Text}
use Rattle.sqlite.specs.Held.{state}
use Rattle.plan_store.specs.Rows.{digest_value}
use Rattle.plan_store.proofs.BookCallLemmas.{one_makes, begun}
use Rattle.plan_store.proofs.StatementLemmas.{sets_key}
use Rattle.plan_store.proofs.WriteMeanings.{set_key_text}
use Rattle.plan_store.proofs.changes.set_key_in.Goals as goal

pub returns : goal.returns
returns g c =
    let old = c.args.conn.now in
    c.transact.ensures _ (rw (c.as_bytes.ensures.value, c.as_slice.ensures, c.in_ok-digits.ensures.digits)
    (one_makes g.S.Store old c.requires.ready (set_key_text, Text c.args.name.now ∷ digest_value c.args.digest.now ∷ []) _
    (λ mid count stands ran. sets_key (state g.S.Store (begun old))
    (state g.S.Store mid) stands.store.schema stands.store.rows count c.args.name.now c.args.digest.now
    c.digits_of.ensures.known stands.store.rules ran) c.requires.kept))
