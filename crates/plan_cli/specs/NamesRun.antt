-- The output of `plan names` for the bytes that it reads (docs/definitions.md, "Runs").
use Rattle.std.specs.Prelude.{◌≡◌, ℕ, List, ◌++◌, Ok, codes}
use Rattle.std.specs.List.{flat_map}
use Rattle.plan_psplib.specs.Plain.{plain}
use Rattle.plan_psplib.specs.declared.text.fault.FileFault.{FileFault}
use Rattle.plan_orlib.specs.Instances.{names_of}
use Rattle.plan_orlib.specs.ShopText.{FailsWith}
use Rattle.plan_gantt.specs.FaultText.{file_fault_text_of}

-- names as text, one on each line
abbrev pub name_lines : List (List ℕ) → List ℕ
name_lines names = flat_map (λ name. name ++ codes "\n") names

-- a text has the names of all instances in a file, which is plain
abbrev pub AreNamesOf : List ℕ → List ℕ → Type 0
AreNamesOf file text = (plain file ≡ Ok tt) × (text ≡ name_lines (names_of file))

-- a line gives the reason why a file isn't plain
abbrev pub TellsNotPlain : List ℕ → List ℕ → Type 0
TellsNotPlain file line =
    (first : FileFault) × FailsWith (plain file) first × (line ≡ file_fault_text_of first)
