-- The errors of a file (docs/definitions.md, "Files").
use Rattle.std.specs.Prelude.{◌≡◌, []}
use Rattle.plan_psplib.specs.declared.text.fault.FileCode.TheVariants as code
use Rattle.plan_psplib.specs.declared.text.fault.FileFault.{FileFault}
use Rattle.plan_psplib.specs.declared.text.fault.ReadError.{ReadError}
use Rattle.plan_psplib.specs.declared.text.fault.ReadError.TheVariants as errors

-- out of memory, which is not an error of the file
abbrev pub IsWantOfMemory : FileFault → Type 0
IsWantOfMemory fault = (fault.code ≡ code.Memory) × (fault.line ≡ 0) × (fault.cycle.items ≡ [])

-- the error of the file is the error of its part
abbrev pub TellsError : ReadError → FileFault → Type 0
TellsError errors.Memory fault = IsWantOfMemory fault
TellsError (errors.Fault f) fault = (fault.code ≡ f.code) × (fault.line ≡ f.line) × (fault.cycle.items ≡ [])
