-- The line of the first check that a file fails (docs/definitions.md, "Texts").
use Rattle.std.specs.Prelude.{◌≡◌, ℕ, List}
use Rattle.plan_psplib.specs.declared.text.fault.FileFault.{FileFault}
use Rattle.plan_psplib.specs.Project.{IsFirstFailing}
use Rattle.plan_orlib.specs.ShopText.{FailsWith, shop}
use Rattle.plan_gantt.specs.FaultText.{file_fault_text_of}

-- a line reports the first check that a project file fails
abbrev pub TellsFirstFailing : List ℕ → List ℕ → Type 0
TellsFirstFailing file line =
    (first : FileFault) × IsFirstFailing file first × (line ≡ file_fault_text_of first)

-- a line reports the first check that a job shop file fails for an instance
abbrev pub TellsFirstShopFault : List ℕ → List ℕ → List ℕ → Type 0
TellsFirstShopFault instance file line =
    (first : FileFault) × FailsWith (shop instance file) first × (line ≡ file_fault_text_of first)
