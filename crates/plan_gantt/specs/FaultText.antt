-- The texts of file faults (docs/definitions.md, "Texts").
use Rattle.std.specs.Prelude.{ℕ, List, ◌∷◌, ◌++◌, codes}
use Rattle.std.specs.List.{flat_map}
use Rattle.std.specs.Fmt.{decimal}
use Rattle.plan_psplib.specs.declared.text.fault.FileCode.{FileCode}
use Rattle.plan_psplib.specs.declared.text.fault.FileCode.TheVariants as code
use Rattle.plan_psplib.specs.declared.text.fault.FileFault.{FileFault}

-- the name of the check that a file fails
abbrev pub code_name_of : FileCode → List ℕ
code_name_of code.TooLong = codes "F1"
code_name_of code.NotText = codes "F2"
code_name_of code.MissingHead = codes "F3"
code_name_of code.Unsupported = codes "F4"
code_name_of code.MissingSection = codes "F5"
code_name_of code.BadNumber = codes "F6"
code_name_of code.JobOrder = codes "F7"
code_name_of code.Modes = codes "F8"
code_name_of code.Count = codes "F9"
code_name_of code.Limit = codes "F10"
code_name_of code.Double = codes "F11"
code_name_of code.Cycle = codes "F12"
code_name_of code.NoInstance = codes "F13"
code_name_of code.BadMachine = codes "F14"
code_name_of code.Memory = codes "E90"

-- a check, and the line at which it fails
abbrev pub place_text : FileCode → ℕ → List ℕ
place_text code line = code_name_of code ++ codes " line " ++ decimal line

-- numbers, a space before each
abbrev pub spaced_numbers : List ℕ → List ℕ
spaced_numbers ns = flat_map (λ n. 32 ∷ decimal n) ns

-- out of memory has no line, and a cycle names its activities
abbrev pub fault_text_by : FileCode → ℕ → List ℕ → List ℕ
fault_text_by code.Memory line cycle = codes "E90 memory"
fault_text_by code.Cycle line cycle = place_text code.Cycle line ++ codes " cycle" ++ spaced_numbers cycle
fault_text_by other line cycle = place_text other line

-- the text of a file fault
abbrev pub file_fault_text_of : FileFault → List ℕ
file_fault_text_of fault = fault_text_by fault.code fault.line fault.cycle.items
