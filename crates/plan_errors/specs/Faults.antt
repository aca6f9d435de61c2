-- The error of a command, and its line of text (docs/definitions.md, "Runs").
use Rattle.std.specs.Prelude.{◌≡◌, ℕ, List, ◌++◌, Option, None, String, Vec, codes}
use Rattle.std.specs.Global.{Global}
use Rattle.plan_errors.specs.Codes.{name_of}
use Rattle.plan_errors.specs.Parts.{parts_text}
use Rattle.plan_errors.specs.declared.codes.Code.{Code}
use Rattle.plan_errors.specs.declared.codes.Code.TheVariants as code
use Rattle.plan_errors.specs.declared.context.Contents.{Contents}
use Rattle.plan_errors.specs.declared.context.Contents.TheVariants.{Unknown}
use Rattle.plan_errors.specs.declared.context.About.{About}
use Rattle.plan_errors.specs.declared.context.About.TheVariants as subject
use Rattle.plan_errors.specs.declared.fault.CliFault.{CliFault}
use Rattle.plan_errors.specs.declared.fault.CliFault.TheVariants as fault
use Rattle.plan_errors.specs.declared.parts.Part.{Part}
use Rattle.plan_errors.specs.declared.refusal.Refusal.{Refusal}

-- the line of a refusal, without its end: the code, and each part behind a blank
abbrev pub refusal_line : Refusal → List ℕ
refusal_line refusal = name_of refusal.code ++ parts_text refusal.parts.items

-- the refusal with this code and these parts about an argument, without a detail
abbrev pub refusal_of : Code → About → Vec Part Global → Refusal
refusal_of code about parts =
    record { code = code; parts = parts; about = about; contents = Unknown; detail = None }

-- the line of an error, without its end
abbrev pub line_of : CliFault → List ℕ
line_of (fault.Refused refusal) = refusal_line refusal
line_of fault.Memory = codes "E90 memory"
line_of (fault.Input unread) = codes "I1 file"
line_of fault.Output = codes "I3 output"

-- the code of an error
abbrev pub code_of : CliFault → Code
code_of (fault.Refused refusal) = refusal.code
code_of fault.Memory = code.NoMemory
code_of (fault.Input unread) = code.Input
code_of fault.Output = code.Output

-- what an error is about
abbrev pub subject_of : CliFault → About
subject_of (fault.Refused refusal) = refusal.about
subject_of fault.Memory = subject.Other
subject_of (fault.Input unread) = unread
subject_of fault.Output = subject.Other

-- an error of a file or an argument is about this one; an error of memory is about none
abbrev pub IsAbout : About → CliFault → Type 0
IsAbout about (fault.Refused refusal) = refusal.about ≡ about
IsAbout about fault.Memory = Unit {0}
IsAbout about (fault.Input unread) = ⊥
IsAbout about fault.Output = ⊥

-- if a file can't be read, it is the one that is this argument
abbrev pub IsUnread : About → CliFault → Type 0
IsUnread about (fault.Input unread) = unread ≡ about
IsUnread about _ = Unit {0}

-- the same error with these contents of its file
abbrev pub with_contents : Contents → CliFault → CliFault
with_contents contents (fault.Refused refusal) = fault.Refused (record {
  code = refusal.code;
  parts = refusal.parts;
  about = refusal.about;
  contents = contents;
  detail = refusal.detail;
})
with_contents contents fault.Memory = fault.Memory
with_contents contents (fault.Input unread) = fault.Input unread
with_contents contents fault.Output = fault.Output

-- the same error with this detail
abbrev pub with_detail : Option (String Global) → CliFault → CliFault
with_detail detail (fault.Refused refusal) = fault.Refused (record {
  code = refusal.code;
  parts = refusal.parts;
  about = refusal.about;
  contents = refusal.contents;
  detail = detail;
})
with_detail detail fault.Memory = fault.Memory
with_detail detail (fault.Input unread) = fault.Input unread
with_detail detail fault.Output = fault.Output
