use Rattle.std.proofs.Common.{refl, Ok}
use Rattle.plan_store.proofs.TransactionLemmas.{failed_with}
use Rattle.plan_store.proofs.MigrateLemmas.{migrated_all, migrated_none}
use Rattle.plan_store.proofs.migration.migrate.Goals as goal

pub returns : goal.returns
returns g c =
    let new = c.run_all.new.conn in
    let did = c.in_ok-run_all.ensures in
    migrated_all g.S.Store c.args.conn.now new c.requires.first did.outside did.survives (λ trees live may. g.met.S.Store.settled new.store trees live may) did.made (Ok tt) refl

pub returns-in_err-run_all : goal.returns-in_err-run_all
returns-in_err-run_all g c =
    let new = c.run_all.new.conn in
    let did = c.in_err-run_all.ensures in
    let settled = c.is_autocommit-settled.ensures in
    failed_with c.from_residual.result _ _ c.from_residual.ensures.1 (λ fault is known.
    migrated_none g.S.Store c.args.conn.now new c.requires.first did.outside did.survives (λ live. settled.settled (rw (settled.value, c.requires.outside) refl) live)
    (λ clean live. did.neither clean live) c.from_residual.result fault is known.0 known.1)
