-- The lines of the faults of commands on an office (docs/definitions.md, "Runs").
use Rattle.std.specs.Prelude.{ℕ, List, codes}
use Rattle.plan_door.specs.declared.fault.ServeFault.{ServeFault}
use Rattle.plan_door.specs.declared.fault.ServeFault.TheVariants as fault

-- the line of a fault, without its line feed; faults that differ only in their cause have the same
-- line
abbrev pub line_of : ServeFault → List ℕ
line_of fault.Memory = codes "E90 memory"
line_of fault.Store = codes "E91 store"
line_of fault.NotOurs = codes "K1 not ours"
line_of fault.Version = codes "K2 version"
line_of fault.Key = codes "K3 key"
line_of fault.Input = codes "I1 file"
line_of fault.Socket = codes "I2 socket"
line_of fault.Output = codes "I3 output"
line_of fault.Locked = codes "E91 store"
line_of fault.Missing = codes "E91 store"
line_of fault.Denied = codes "E91 store"
line_of fault.Taken = codes "K1 not ours"
line_of fault.PortTaken = codes "I2 socket"
line_of fault.PortDenied = codes "I2 socket"
