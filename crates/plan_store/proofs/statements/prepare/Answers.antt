use Rattle.std.proofs.Common.{arith, Ok, Err, inl, []}
use Rattle.sqlite.specs.State.{HasCleanDisk}
use Rattle.sqlite.specs.Held.{state}
use Rattle.plan_store.proofs.TransactionLemmas.{mapped}
use Rattle.plan_store.proofs.QueryEffectLemmas.{queries, queries_as, was_if_ok, was_if_err, not_run_rests, nothing_new}
use Rattle.plan_store.proofs.EnduringLemmas.{endures_by}
use Rattle.plan_store.proofs.statements.prepare.Goals as goal

pub returns : goal.returns
returns g c =
    let old = state g.S.Store c.args.conn.now in
    let new = state g.S.Store c.prepare.new.self in
    let did = c.prepare.ensures in
    mapped c.prepare.result c.map_err.result _ _ c.map_err.ensures.cases
    (λ statement is same.
    let ok = λ (clean : HasCleanDisk new). was_if_ok _ c.prepare.result statement is (did.ok clean) in
    queries_as old new (Ok statement) c.map_err.result _ same
    (queries old new c.requires.rest (λ clean. omega (arith, did.survives.clean)) (λ clean. inl (ok clean).1) (Ok statement) _ (did.mode c.requires.rest.outside)
    (λ clean. ((ok clean).1.0.is_open, (ok clean).0)) (nothing_new old new did.survives) (endures_by old new _ did.survives)))
    (λ error fault is same _.
    queries_as old new (Err fault) c.map_err.result _ same
    (queries old new c.requires.rest (λ clean. omega (arith, did.survives.clean)) (λ clean. not_run_rests c.args.text.now [] old new error (was_if_err _ c.prepare.result error is (did.err clean) []))
    (Err fault) _ (did.mode c.requires.rest.outside) tt (nothing_new old new did.survives) (endures_by old new _ did.survives)))
