-- A connection whose tables are reloaded (docs/definitions.md, "Tables").
use Rattle.std.specs.Prelude.{◌≡◌, false, IsTrue}
use Rattle.sqlite_trees.specs.Tree.{Trees}
use Rattle.sqlite_trees.specs.View.{IsClean}
use Rattle.sqlite_trees.specs.declared.store.Store.{Ghosts}
use Rattle.sqlite.specs.Effect.{IsDatabase}
use Rattle.sqlite.specs.State.{State, HasCleanDisk}
use Rattle.plan_store.specs.Layouts.{AreInOrder}

-- It is open, outside a transaction, everything is committed, and its rows are in order.
pub record IsInOrder (s : State) : Type 0 where
  pub is_open : IsTrue s.is_open
  pub outside : s.in_transaction ≡ false
  pub settled : s.now ≡ s.committed
  pub order : AreInOrder s.now
  pub sound : IsDatabase s.now

-- Its tables are the same as before, in order, and a crash leaves nothing that it couldn't before.
pub record IsReread (old new : State) : Type 0 where
  pub outside : new.in_transaction ≡ false
  pub honesty : HasCleanDisk new → HasCleanDisk old
  pub was_open : HasCleanDisk new → IsTrue old.is_open
  pub in_order : HasCleanDisk new → IsInOrder new
  pub same : HasCleanDisk new → new.now ≡ old.now
  pub crash : HasCleanDisk new → (trees : Trees) → new.may_leave trees → old.may_leave trees

-- The store has the tables of its connection, and a crash leaves nothing that it couldn't before.
pub record IsStoreOf {S : Type 0} (g : Ghosts S) (old : State) (store : S) : Type 0 where
  pub honesty : IsClean (g.view store) → HasCleanDisk old
  pub same : IsClean (g.view store) → IsTrue (g.view store).is_open
      → IsTrue old.is_open × ((g.view store).trees ≡ old.now.trees)
  pub crash : IsClean (g.view store) → (trees : Trees) → g.recovers store trees → old.may_leave trees
