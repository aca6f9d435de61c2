-- The errors of a text of starts (docs/definitions.md, "Runs").
use Rattle.std.specs.Prelude.{◌≡◌, ℕ, List, ◌++◌, codes}
use Rattle.plan_psplib.specs.declared.text.fault.FileCode.TheVariants as code
use Rattle.plan_psplib.specs.declared.text.fault.FileFault.{FileFault}
use Rattle.plan_psplib.specs.declared.text.fault.ReadError.{ReadError}
use Rattle.plan_psplib.specs.Faults.{TellsError}
use Rattle.plan_orlib.specs.ShopText.{FailsWith}
use Rattle.plan_gantt.specs.FaultText.{file_fault_text_of}
use Rattle.plan_report.specs.Sheet.{Sheet}
use Rattle.plan_report.specs.StartsText.{starts_in}
use Rattle.plan_errors.specs.declared.fault.CliFault.{CliFault}
use Rattle.plan_errors.specs.Output.{Refuses}

-- the line of the first check that a text of starts fails
abbrev pub starts_fault_text_of : FileFault → List ℕ
starts_fault_text_of first = file_fault_text_of first ++ codes " of the starts"

-- a line gives the error of a text of starts, which isn't that of memory
abbrev pub TellsStarts : FileFault → List ℕ → Type 0
TellsStarts first line = (first.code ≡ code.Memory → ⊥) × (line ≡ starts_fault_text_of first)

-- the error of a text of starts that can't be read
pub record IsStartsError (error : ReadError) (e : CliFault) : Type 0 where
  pub first : FileFault
  pub read : TellsError error first
  pub told : Refuses (TellsStarts first) e

-- a line gives the first check that a text of the starts of a sheet fails
abbrev pub TellsNoStarts : Sheet → List ℕ → List ℕ → Type 0
TellsNoStarts sheet text line =
    (first : FileFault) × FailsWith (starts_in sheet text) first
    × (line ≡ starts_fault_text_of first)
