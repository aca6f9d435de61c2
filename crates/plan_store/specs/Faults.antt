-- The error of a book for an error of its connection (docs/definitions.md, "Tables").
use Rattle.sqlite.specs.declared.error.ErrorCode.TheVariants.{OutOfMemory}
use Rattle.sqlite.specs.declared.error.Error.{Error}
use Rattle.sqlite.specs.declared.error.Error.TheVariants.{SqliteFailure}
use Rattle.plan_rows.specs.declared.fault.BookFault.{BookFault}
use Rattle.plan_rows.specs.declared.fault.BookFault.TheVariants.{NoMemory, Store}
use Rattle.plan_store.specs.declared.fault.StoreFault.{StoreFault}
use Rattle.plan_store.specs.declared.fault.StoreFault.TheVariants as made

-- out of memory is `NoMemory`, and each other error is `Store`
abbrev pub book_fault : Error → BookFault
book_fault (SqliteFailure OutOfMemory) = NoMemory
book_fault _ = Store

-- the same for a book that is created or adopted
abbrev pub making_fault : BookFault → StoreFault
making_fault NoMemory = made.NoMemory
making_fault Store = made.Store
