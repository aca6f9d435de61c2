use Rattle.std.proofs.Common.{map}
use Rattle.plan_store.specs.Transactions.{said}
use Rattle.plan_store.proofs.TransactionLemmas.{mapped, was_ok, was_err}
use Rattle.plan_store.proofs.BookCallLemmas.{made_changes, refused_changes}
use Rattle.plan_store.proofs.transaction.transact.Goals as goal

pub returns : goal.returns
returns g c change makes =
    let new = c.run_all.new.conn in
    let did = c.run_all.ensures in
    let all = map said c.args.statements.now in
    mapped c.run_all.result c.map_err.result _ _ c.map_err.ensures.cases
    (λ x is same. made_changes g.S.Store c.args.conn.now c.requires.ready new all change makes did.outside did.survives
    (λ trees live may. g.met.S.Store.settled new.store trees live may) (λ clean. was_ok c.run_all.result x is (did.made clean)) c.map_err.result same)
    (λ e d is same _. refused_changes g.S.Store c.args.conn.now c.requires.ready new all change makes did.outside did.survives
    (λ clean live. was_err c.run_all.result e is (did.neither clean live)) c.map_err.result d same)
