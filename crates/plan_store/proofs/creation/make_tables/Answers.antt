use Rattle.std.proofs.Common.{refl, Ok, Err}
use Rattle.sqlite.specs.Held.{state}
use Rattle.plan_store.specs.declared.fault.StoreFault.TheVariants.{Store}
use Rattle.plan_store.proofs.TransactionLemmas.{failed_with}
use Rattle.plan_store.proofs.CreateLemmas.{creates_nothing, created_all, created_none}
use Rattle.plan_store.proofs.creation.make_tables.Goals as goal

pub returns-in_default : goal.returns-in_default
returns-in_default g c = creates_nothing (state g.S.Store c.args.conn.now) c.args.digest.now (Err Store) Store refl c.requires.outside (λ e. cc, λ e. cc)

pub returns : goal.returns
returns g c =
    let new = c.run_all.new.conn in
    let did = c.in_ok-run_all.ensures in
    created_all g.S.Store c.args.digest.now c.digits_of.ensures.known c.args.conn.now new c.requires.empty did.outside (rw (c.as_slice.ensures, c.in-Ok.ensures.digits) at did.survives)
    (λ trees live may. g.met.S.Store.settled new.store trees live may) (rw (c.as_slice.ensures, c.in-Ok.ensures.digits) at did.made) (Ok tt) refl

pub returns-in_err-run_all : goal.returns-in_err-run_all
returns-in_err-run_all g c =
    let new = c.run_all.new.conn in
    let did = c.in_err-run_all.ensures in
    let settled = c.is_autocommit-settled.ensures in
    failed_with c.from_residual.result _ _ c.from_residual.ensures.1 (λ fault is known.
    created_none g.S.Store c.args.digest.now c.digits_of.ensures.known c.args.conn.now new c.requires.empty did.outside (rw (c.as_slice.ensures, c.in-Ok.ensures.digits) at did.survives)
    (λ outside live. settled.settled (rw (settled.value, outside) refl) live) c.requires.outside (λ clean live. did.neither clean live) c.from_residual.result fault is known)
