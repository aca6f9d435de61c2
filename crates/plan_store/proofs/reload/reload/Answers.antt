use Rattle.std.proofs.Common.{sym, refl}
use Rattle.plan_store.proofs.ReloadLemmas.{read_again, left_over}
use Rattle.plan_store.proofs.reload.reload.Goals as goal

pub returns-in-Ok-clause-again : goal.returns-in-Ok-clause-again
returns-in-Ok-clause-again g c =
    let old = c.args.conn in
    let store = c.into_store-store.result in
    let new = c.in-Ok.conn in
    let did = c.in-Ok.ensures in
    read_again g.S.Store old store (λ is. c.is_autocommit-settled.ensures.settled (rw (c.is_autocommit-settled.ensures.value, c.requires.outside) refl) is) c.schema-schema.ensures.live
    c.into_store-store.ensures.undone c.into_store-store.ensures.quiet
    (λ clean. sym (c.if-is_broken.ensures clean)) (g.met.S.Store.broken_if_shut store) new
    (g.met.S.Store.ordered store) (g.met.S.Alter.listed store) did.clean did.trees did.opens
    did.fresh.autocommit
    (λ trees is may. g.met.S.Store.settled new.store trees is may) (g.met.S.Store.stays old.store)

pub returns-in-Err-clause-left : goal.returns-in-Err-clause-left
returns-in-Err-clause-left g c =
    left_over g.S.Store c.args.conn c.into_store-store.result
    (λ is. c.is_autocommit-settled.ensures.settled
    (rw (c.is_autocommit-settled.ensures.value, c.requires.outside) refl) is) c.schema-schema.ensures.live
    c.into_store-store.ensures.undone c.into_store-store.ensures.quiet
    (λ clean. sym (c.if-is_broken.ensures clean))
    (g.met.S.Store.broken_if_shut c.into_store-store.result) c.in-Err.store c.in-Err.ensures.unharmed
    c.in-Err.ensures.rows
