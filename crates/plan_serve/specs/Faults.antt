-- The faults of commands from faults of the store (docs/definitions.md, "Runs").
use Rattle.plan_store.specs.declared.fault.StoreFault.{StoreFault}
use Rattle.plan_store.specs.declared.fault.StoreFault.TheVariants as store
use Rattle.plan_door.specs.declared.fault.ServeFault.{ServeFault}
use Rattle.plan_door.specs.declared.fault.ServeFault.TheVariants as fault

-- the fault of a command whose store has a fault
abbrev pub fault_of : StoreFault → ServeFault
fault_of store.NotOurs = fault.NotOurs
fault_of store.Version = fault.Version
fault_of store.NoMemory = fault.Memory
fault_of store.Store = fault.Store
