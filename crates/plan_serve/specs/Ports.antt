-- The result of serving an office from files (docs/definitions.md, "Runs").
use Rattle.std.specs.Prelude.{ℕ}
use Rattle.sqlite_disk.specs.declared.start.Start as start
use Rattle.sqlite_trees.specs.declared.store.Store.{Ghosts}
use Rattle.plan_store.specs.SqlBooks.{Counted, sql_shelf}
use Rattle.plan_store.specs.OnDisk.{IsTakenFrom}
use Rattle.plan_door.specs.Ports.{ServesFrom}

-- the tables in files were opened, and `count` turns were served by an office over them
abbrev pub ServesOnFiles : {F S : Type 0} → start.Ghosts F → Ghosts S → ℕ → Type 0
ServesOnFiles {F} {S} first g count =
    (book : Counted S) × IsTakenFrom first book.conn g × ServesFrom (sql_shelf g) book count
