-- The hint for an error (docs/definitions.md, "Runs").
use Rattle.std.specs.Prelude.{◌++◌, ℕ, Bool, ◌||◌, ◌&&◌, if◌then◌else◌, nat_le, nat_lt}
use Rattle.std.specs.Prelude.{List, [], Option, Some, None, String, string_bytes, codes}
use Rattle.std.specs.List.{flat_map}
use Rattle.std.specs.Char.{encode_utf8}
use Rattle.std.specs.Str.{chars}
use Rattle.std.specs.Global.{Global}
use denote.Ref.{Bor}
use Rattle.plan_errors.specs.Codes.{name_of, cause_of}
use Rattle.plan_errors.specs.Faults.{code_of, subject_of}
use Rattle.plan_errors.specs.Subjects.{argument_of, shown_as, cause_in}
use Rattle.plan_errors.specs.declared.codes.Code.{Code}
use Rattle.plan_errors.specs.declared.codes.Code.TheVariants as code
use Rattle.plan_errors.specs.declared.context.Context.{Context}
use Rattle.plan_errors.specs.declared.context.About.{About}
use Rattle.plan_errors.specs.declared.fault.CliFault.{CliFault}
use Rattle.plan_errors.specs.declared.fault.CliFault.TheVariants as fault

-- a control character: U+0000 to U+001F, U+007F to U+009F
abbrev pub is_control : ℕ → Bool
is_control c = nat_lt c 32 || (nat_le 127 c && nat_le c 159)

-- the bytes that a terminal gets for a character: those of a question mark for a control character
unfoldable pub masked_char : ℕ → List ℕ
masked_char c = encode_utf8 (if is_control c then 63 else c)

-- a text in which question marks replace the control characters
abbrev pub masked : List ℕ → List ℕ
masked text = flat_map masked_char (chars text)

-- an argument as hints print it, masked, and a colon, if there is one
abbrev pub named : About → Option (Bor (List ℕ)) → List ℕ
named about None = []
named about (Some argument) = masked (shown_as about argument.now) ++ codes ": "

-- the argument that an error is about, its cause, and the command that explains its code
abbrev pub advice_text : About → Option (Bor (List ℕ)) → List ℕ → Code → List ℕ
advice_text about argument cause code =
    named about argument ++ (cause ++ (codes "; see: plan explain " ++ name_of code))

-- the cause of a refusal: that with the names in the file, masked, or else the likely one
abbrev pub cause_or : Option (String Global) → List ℕ → List ℕ
cause_or None likely = likely
cause_or (Some detail) likely = masked (string_bytes detail)

-- the cause of an error
abbrev pub cause_shown : CliFault → List ℕ
cause_shown (fault.Refused refusal) =
    cause_or refusal.detail (cause_in refusal.contents refusal.about refusal.code)
cause_shown fault.Memory = cause_of code.NoMemory
cause_shown (fault.Input unread) = cause_of code.Input
cause_shown fault.Output = cause_of code.Output

-- the advice on an error of a command with these arguments
abbrev pub advice_of : Context → CliFault → List ℕ
advice_of context fault =
    advice_text (subject_of fault) (argument_of context (subject_of fault)) (cause_shown fault)
    (code_of fault)

-- the hint for an error of a command with these arguments
abbrev pub hint_of : Context → CliFault → List ℕ
hint_of context fault = codes "hint: " ++ advice_of context fault

-- the hint for an error with this code about an argument
abbrev pub code_hint_of : About → Option (Bor (List ℕ)) → Code → List ℕ
code_hint_of about argument code =
    codes "hint: " ++ advice_text about argument (cause_of code) code
