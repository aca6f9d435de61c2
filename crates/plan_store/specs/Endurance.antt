-- The facts that hold after each call on a connection (docs/definitions.md, "Tables").
use Rattle.std.specs.Prelude.{◌⊎◌, ◌≤◌, IsTrue}
use Rattle.sqlite_disk.specs.Disk.{MoreFaults}
use Rattle.sqlite.specs.State.{State, HasCleanDisk}

-- errors of the disk are counted, and only a counted error closes the store
pub record Endures (old new : State) : Type 0 where
  pub counts : old.faults ≤ new.faults
  pub closes : HasCleanDisk new → IsTrue old.is_open
      → IsTrue new.is_open ⊎ MoreFaults old.faults new.faults
