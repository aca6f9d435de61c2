-- A book in the files at a path (docs/definitions.md, "Tables").
use Rattle.std.specs.Prelude.{◌≢◌, Option, Some, None}
use Rattle.sqlite_wal.specs.Files.{image_at}
use Rattle.sqlite_disk.specs.declared.start.Start as start
use Rattle.sqlite_trees.specs.declared.store.Store.{Ghosts}
use Rattle.sqlite.specs.State.{HasCleanDisk}
use Rattle.sqlite.specs.Held.{Held, state}
use Rattle.sqlite.specs.Start.{FindsIn}
use Rattle.plan_store.specs.declared.fault.StoreFault.{StoreFault}
use Rattle.plan_store.specs.declared.fault.StoreFault.TheVariants.{NotOurs, Version}
use Rattle.plan_store.specs.declared.leftover.Leftover.{Leftover}
use Rattle.plan_store.specs.BookCalls.{Stands}
use Rattle.plan_store.specs.Adoption.{IsTaken, IsRefused}

module _ {F S : Type 0} (first : start.Ghosts F) where
  -- the tables in the files were adopted
  abbrev pub IsTakenFrom : Held S → Ghosts S → Type 0
  IsTakenFrom conn g =
      HasCleanDisk (state g conn)
      → Stands (state g conn)
      × ((opened : Held S) × FindsIn (image_at first) (state g opened) × IsTaken (state g opened).now (state g conn).now)

  -- the files weren't opened, or the tables in them were rejected
  abbrev pub IsRefusedFrom : StoreFault → Option (Leftover S) → Ghosts S → Type 0
  IsRefusedFrom fault None g = (fault ≢ NotOurs) × (fault ≢ Version)
  IsRefusedFrom fault (Some leftover) g =
      (opened : Held S) × (HasCleanDisk (state g opened) → FindsIn (image_at first) (state g opened))
      × IsRefused g (state g opened) fault leftover
