-- The result of a replay by an office from files (docs/definitions.md, "Runs").
use Rattle.std.specs.Prelude.{◌≡◌, ℕ, List, Option, length}
use Rattle.sqlite_disk.specs.declared.start.Start as start
use Rattle.sqlite_trees.specs.declared.store.Store.{Ghosts}
use Rattle.plan_rows.specs.World.{Text}
use Rattle.plan_store.specs.SqlBooks.{Counted, sql_shelf}
use Rattle.plan_store.specs.OnDisk.{IsTakenFrom}
use Rattle.plan_door.specs.ReplayRun.{ReplaysFrom}

-- the tables in files were opened, and `count` connections were served by an office over them
abbrev pub ReplaysOnFiles : {F S : Type 0} → start.Ghosts F → Ghosts S → ℕ
    → Option Text → Option Text → Type 0
ReplaysOnFiles {F} {S} first g count taken after =
    (book : Counted S) × (conns : List Text) × (length conns ≡ count)
    × IsTakenFrom first book.conn g
    × ReplaysFrom (sql_shelf g) book conns taken after
