-- The hints for faults whose line doesn't name their cause (docs/definitions.md, "Keys in files").
use Rattle.std.specs.Prelude.{◌++◌, ℕ, Bool, true, false, List, Option, Some, None, codes}
use Rattle.std.specs.Fmt.{decimal}
use Rattle.plan_door.specs.declared.fault.ServeFault.{ServeFault}
use Rattle.plan_door.specs.declared.fault.ServeFault.TheVariants as fault

-- the hint for a file that doesn't exist; a new one lacks its folder
abbrev pub missing_hint : Bool → List ℕ → List ℕ
missing_hint true file = codes "hint: there is no folder for " ++ file
missing_hint false file = codes "hint: there is no " ++ file

-- the hint for the cause of a fault, with the name of the office's file or the number of the port;
-- none if the line of the fault names the cause
abbrev pub cause_hint : List ℕ → Bool → ℕ → ServeFault → Option (List ℕ)
cause_hint file is_new port fault.Taken =
    Some (codes "hint: " ++ file ++ codes " already holds an office")
cause_hint file is_new port fault.Locked =
    Some (codes "hint: " ++ file ++ codes " is open in another program")
cause_hint file is_new port fault.Missing = Some (missing_hint is_new file)
cause_hint file is_new port fault.Denied =
    Some (codes "hint: this user can't write " ++ file ++ codes " or its folder")
cause_hint file is_new port fault.PortTaken =
    Some (codes "hint: port " ++ decimal port ++ codes " is in use")
cause_hint file is_new port fault.PortDenied =
    Some (codes "hint: this user can't listen on port " ++ decimal port)
cause_hint file is_new port e = None
