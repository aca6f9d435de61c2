-- Texts that are made for a file, and the lines of its errors (docs/definitions.md, "Runs").
use Rattle.std.specs.Prelude.{◌≡◌, ℕ, List, Result, String, IfOk, string_bytes}
use Rattle.std.specs.Global.{Global}
use Rattle.plan_psplib.specs.declared.text.fault.FileCode.TheVariants as code
use Rattle.plan_psplib.specs.declared.text.fault.FileFault.{FileFault}
use Rattle.plan_gantt.specs.FaultText.{file_fault_text_of}
use Rattle.plan_errors.specs.declared.fault.CliFault.{CliFault}

-- a call that makes a text makes one of this kind
abbrev pub IfText : Result (String Global) CliFault → (List ℕ → Type 0) → Type 0
IfText result IsText = IfOk result (λ text. IsText (string_bytes text))

-- a line gives the error of a file, which isn't that of memory
abbrev pub Tells : FileFault → List ℕ → Type 0
Tells first line = (first.code ≡ code.Memory → ⊥) × (line ≡ file_fault_text_of first)
