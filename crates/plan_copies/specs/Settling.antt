-- The result of copying a log into its database (docs/definitions.md, "Copies of an office").
use Rattle.std.specs.Prelude.{◌≡◌, ◌⊎◌, Option, Some, None, Result, Ok, Err}
use Rattle.plan_door.specs.declared.fault.ServeFault.{ServeFault}
use Rattle.plan_door.specs.declared.fault.ServeFault.TheVariants as fault

-- the files were closed, and the log was copied into the database
abbrev pub AreClosed : {A E : Type 0} → Option (Result A E) → Type 0
AreClosed None = ⊥
AreClosed (Some (Ok files)) = Unit {0}
AreClosed (Some (Err e)) = ⊥

-- The result of a check. If it is a success and the log wasn't copied into the database, it is want
-- of memory or a refusal of the store.
abbrev pub IsSettled : {A E : Type 0} → Result (Unit {0}) ServeFault → Option (Result A E)
    → Result (Unit {0}) ServeFault → Type 0
IsSettled (Err e) files told = told ≡ Err e
IsSettled (Ok done) (Some (Ok files)) told = told ≡ Ok done
IsSettled (Ok done) (Some (Err e)) told = (told ≡ Err fault.Memory) ⊎ (told ≡ Err fault.Store)
IsSettled (Ok done) None told = told ≡ Err fault.Store
