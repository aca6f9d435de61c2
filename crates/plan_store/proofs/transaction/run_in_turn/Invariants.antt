use Rattle.std.proofs.Common.{◌≡◌, map, IsTrue, drop}
use Rattle.sqlite.specs.State.{HasCleanDisk, KeepsCommit, Survives}
use Rattle.sqlite.specs.Held.{Held, state}
use Rattle.plan_store.specs.Transactions.{said, RanAll}
use Rattle.plan_store.proofs.transaction.run_in_turn.Given as goal

-- running the statements that are left runs all of them
abbrev pub invariant-loop-text : goal.invariant-loop-text
invariant-loop-text g l = record {
  same : l.tx.conn.ghost_name ≡ l.fn.tx.conn.ghost_name;
  ran : HasCleanDisk (state g.S.Store l.tx.conn.now) → IsTrue l.fn.tx.conn.now.in_transaction
      → IsTrue l.tx.conn.now.in_transaction × ((last : Held g.row.S.Denot) → RanAll g.S.Store (map said (drop l.text-index l.statements)) l.tx.conn.now last
      → RanAll g.S.Store (map said l.statements) l.fn.tx.conn.now last);
  kept : HasCleanDisk (state g.S.Store l.tx.conn.now) → IsTrue l.fn.tx.conn.now.in_transaction
      → KeepsCommit (state g.S.Store l.fn.tx.conn.now) (state g.S.Store l.tx.conn.now);
  survives : Survives (state g.S.Store l.fn.tx.conn.now) (state g.S.Store l.tx.conn.now) (λ _. ⊥);
}
