use Rattle.std.proofs.Common.{rules, ◌≡◌, map, IsTrue, OnOk, subst, arith, refl}
use Rattle.sqlite.specs.State.{HasCleanDisk, Survives}
use Rattle.sqlite.specs.Held.{state}
use Rattle.plan_store.specs.Transactions.{said, LeavesAll, MayMake}
use Rattle.plan_store.proofs.TransactionLemmas.{committed_all, survives_all, on_ok}
use Rattle.plan_store.proofs.transaction.run_all.Goals as goal

pub returns-clause-made : goal.returns-clause-made
returns-clause-made g c =
    let all = map said c.args.statements.now in
    let start = c.args.conn.now in
    let tx = c.transaction-tx.result.conn.now in
    let last = c.run_in_turn.new.tx.conn.now in
    let end = c.commit.new.self.0 in
    let begun = c.transaction-tx.ensures.begun in
    let same : end ≡ c.conn-2-1.given.0 = search rules in
    let inside : IsTrue tx.in_transaction = rw begun refl in
    let made = λ (late : HasCleanDisk (state g.S.Store end)). on_ok c.commit.result
    (λ it. committed_all g.S.Store all start tx last end begun (c.in_ok-run_in_turn.ensures.ran (omega (arith, c.commit.ensures.survives.clean)) inside).0 it.1) (c.commit.ensures.ok late) in
    subst (λ h. HasCleanDisk (state g.S.Store h) → OnOk c.commit.result (IsTrue (state g.S.Store h).is_open × ((state g.S.Store h).now ≡ (state g.S.Store h).committed)
    × LeavesAll g.S.Store all start (state g.S.Store h).now)) same made

pub returns-clause-survives : goal.returns-clause-survives
returns-clause-survives g c =
    let all = map said c.args.statements.now in
    let start = c.args.conn.now in
    let tx = c.transaction-tx.result.conn.now in
    let last = c.run_in_turn.new.tx.conn.now in
    let end = c.commit.new.self.0 in
    let begun = c.transaction-tx.ensures.begun in
    let same : end ≡ c.conn-2-1.given.0 = search rules in
    let inside : IsTrue tx.in_transaction = rw begun refl in
    subst (λ h. Survives (state g.S.Store start) (state g.S.Store h) (MayMake g.S.Store all start)) same
    (survives_all g.S.Store all start tx last end begun c.run_in_turn.ensures.survives (λ clean. (c.in_ok-run_in_turn.ensures.ran clean inside).0) c.commit.ensures.survives)
