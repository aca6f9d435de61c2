use Rattle.std.proofs.Common.{arith, Ok, Err, inl, inr}
use Rattle.sqlite_trees.specs.Tree.{Trees}
use Rattle.sqlite.specs.Values.{bound}
use Rattle.sqlite.specs.State.{HasCleanDisk}
use Rattle.sqlite.specs.Held.{state}
use Rattle.plan_store.proofs.TransactionLemmas.{mapped}
use Rattle.plan_store.proofs.QueryEffectLemmas.{queries, queries_as, was_if_ok, was_if_err, query_failed, query_shown, query_commits_nothing}
use Rattle.plan_store.proofs.EnduringLemmas.{endures_by}
use Rattle.plan_store.proofs.statements.run.Goals as goal

pub returns : goal.returns
returns g c =
    let old = state g.S.Store c.args.conn.now in
    let new = state g.S.Store c.query_all.new.conn in
    let did = c.query_all.ensures in
    let text = c.args.statement.now.text in
    let params = bound c.args.params.now in
    let was = λ (clean : HasCleanDisk new). let early : HasCleanDisk old = omega (arith, did.survives.clean) in early in
    let crash : HasCleanDisk new → (trees : Trees) → new.may_leave trees → old.may_leave trees = λ clean trees may. elim (did.survives.crash clean trees may) [
      | inl before ↦ before
      | inr made ↦ absurd (query_commits_nothing text params old new (c.requires.plain (was clean)) trees made)
    ] in
    mapped c.query_all.result c.map_err.result _ _ c.map_err.ensures.cases
    (λ rows is same.
    let ok = λ (clean : HasCleanDisk new). was_if_ok _ c.query_all.result rows is (did.ok clean) in
    let shown = λ (clean : HasCleanDisk new). query_shown text params old new (c.requires.plain (was clean)) rows.items (ok clean) in
    queries_as old new (Ok rows) c.map_err.result _ same
    (queries old new c.requires.rest was (λ clean. inl (shown clean)) (Ok rows) _
    (did.mode c.requires.rest.outside) (λ clean. ((shown clean).0.is_open, ok clean)) crash
    (endures_by old new _ did.survives)))
    (λ error fault is same _.
    queries_as old new (Err fault) c.map_err.result _ same
    (queries old new c.requires.rest was (λ clean. query_failed text params old new (c.requires.plain (was clean)) error (was_if_err _ c.query_all.result error is (did.err clean))) (Err fault) _
    (did.mode c.requires.rest.outside) tt crash (endures_by old new _ did.survives)))
