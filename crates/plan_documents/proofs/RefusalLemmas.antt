-- Refusals by their codes and parts.
use Rattle.std.proofs.Common.{◌≡◌, ℕ, List, [], ◌∷◌, ◌++◌, Option, String, Result, Ok, Err, Vec, refl, sym, ap, ◌∙◌, subst, append_assoc, codes}
use Rattle.std.specs.Prelude.{IfOk, IfErr, option_map, string_bytes}
use Rattle.std.specs.Fmt.{decimal}
use Rattle.std.specs.Global.{Global}
use Rattle.plan_psplib.specs.declared.text.fault.FileCode.{FileCode}
use Rattle.plan_psplib.specs.declared.text.fault.FileCode.TheVariants as file
use Rattle.plan_psplib.specs.declared.text.fault.FileFault.{FileFault}
use Rattle.plan_gantt.specs.FaultText.{fault_text_by, file_fault_text_of, spaced_numbers}
use Rattle.plan_errors.specs.Codes.{name_of}
use Rattle.plan_errors.specs.Faults.{refusal_of, with_contents, with_detail, IsAbout}
use Rattle.plan_errors.specs.Output.{Refuses}
use Rattle.plan_errors.specs.Parts.{part_text, parts_text}
use Rattle.plan_errors.specs.declared.codes.Code.{Code}
use Rattle.plan_errors.specs.declared.context.Contents.{Contents}
use Rattle.plan_errors.specs.declared.context.About.{About}
use Rattle.plan_errors.specs.declared.fault.CliFault.{CliFault}
use Rattle.plan_errors.specs.declared.fault.CliFault.TheVariants as cli
use Rattle.plan_errors.specs.declared.parts.Part.{Part}
use Rattle.plan_errors.proofs.PartLemmas.{parts_push}
use Rattle.plan_errors.proofs.RefusalLemmas.{refused_with, contents_refuse, contents_about, detail_refuses, detail_about}
use Rattle.plan_table.specs.Reading.{Fault}
use Rattle.plan_documents.specs.TableFaultText.{quoted_cell, QuotesCell}
use Rattle.plan_documents.specs.Contents.{HasContents, KnowsFile}
use Rattle.plan_documents.specs.Refusals.{file_code, place_by, place_of}
use Rattle.plan_documents.specs.Lines.{Tells}
use Rattle.plan_documents.specs.Starts.{TellsStarts}

-- one more part follows the text
pub pushed : (parts : List Part) (last : Part) → parts_text (parts ++ last ∷ []) ≡ parts_text parts ++ part_text last
pushed parts last = parts_push parts last

-- the line of a file's error is its code and its place
line_by : (code : FileCode) (line : ℕ) (cycle : List ℕ) → (code ≡ file.Memory → ⊥)
    → name_of (file_code code) ++ place_by code line cycle ≡ fault_text_by code line cycle
line_by file.TooLong line cycle named = refl
line_by file.NotText line cycle named = refl
line_by file.MissingHead line cycle named = refl
line_by file.Unsupported line cycle named = refl
line_by file.MissingSection line cycle named = refl
line_by file.BadNumber line cycle named = refl
line_by file.JobOrder line cycle named = refl
line_by file.Modes line cycle named = refl
line_by file.Count line cycle named = refl
line_by file.Limit line cycle named = refl
line_by file.Double line cycle named = refl
line_by file.Cycle line cycle named =
    ap (λ (text : List ℕ). codes "F12 line " ++ text) (sym (append_assoc (decimal line) (codes " cycle") (spaced_numbers cycle)))
line_by file.NoInstance line cycle named = refl
line_by file.BadMachine line cycle named = refl
line_by file.Memory line cycle named = absurd (named refl)

file_line : (first : FileFault) → (first.code ≡ file.Memory → ⊥)
    → name_of (file_code first.code) ++ place_of first ≡ file_fault_text_of first
file_line first named = line_by first.code first.line first.cycle.items named

if_ok_weaker : {T E : Type 0} (r : Result T E) (P Q : T → Type 0) → ((x : T) → P x → Q x) → IfOk r P → IfOk r Q
if_ok_weaker (Ok x) P Q implies p = implies x p
if_ok_weaker (Err e) P Q implies p = tt

-- the error of a file
pub file_refused : {E : Type 0} (first : FileFault) (code : Code) (about : About)
    (parts : Result (Vec Part Global) E) (e : CliFault)
    → (first.code ≡ file.Memory → ⊥) → code ≡ file_code first.code
    → IfOk parts (λ list. parts_text list.items ≡ place_of first)
    → IfOk parts (λ list. e ≡ cli.Refused (refusal_of code about list)) → IfErr parts (λ _. e ≡ cli.Memory)
    → Refuses (Tells first) e
file_refused first code about parts e named is place made memory =
    refused_with (Tells first) code about parts e
    (if_ok_weaker parts (λ list. parts_text list.items ≡ place_of first) (λ list. Tells first (name_of code ++ parts_text list.items))
    (λ list text. (
      named,
      ap (λ (tail : List ℕ). name_of code ++ tail) text
          ∙ ap (λ (c : Code). name_of c ++ place_of first) is
          ∙ file_line first named,
    )) place)
    made memory

-- the error of a text of starts
pub starts_refused : {E : Type 0} (first : FileFault) (code : Code) (about : About)
    (parts : Result (Vec Part Global) E) (e : CliFault)
    → (first.code ≡ file.Memory → ⊥) → code ≡ file_code first.code
    → IfOk parts (λ list. parts_text list.items ≡ place_of first ++ codes " of the starts")
    → IfOk parts (λ list. e ≡ cli.Refused (refusal_of code about list)) → IfErr parts (λ _. e ≡ cli.Memory)
    → Refuses (TellsStarts first) e
starts_refused first code about parts e named is place made memory =
    refused_with (TellsStarts first) code about parts e
    (if_ok_weaker parts (λ list. parts_text list.items ≡ place_of first ++ codes " of the starts")
    (λ list. TellsStarts first (name_of code ++ parts_text list.items))
    (λ list text. (
      named,
      ap (λ (tail : List ℕ). name_of code ++ tail) text
          ∙ ap (λ (c : Code). name_of c ++ (place_of first ++ codes " of the starts")) is
          ∙ sym (append_assoc (name_of (file_code first.code)) (place_of first) (codes " of the starts"))
          ∙ ap (λ (line : List ℕ). line ++ codes " of the starts") (file_line first named),
    )) place)
    made memory

-- the contents of a file in its error
pub knows : (file : List ℕ) (contents : Contents) (e : CliFault) → HasContents file contents
    → KnowsFile file (with_contents contents e)
knows file contents (cli.Refused refusal) has = has
knows file contents cli.Memory has = tt
knows file contents (cli.Input unread) has = tt
knows file contents cli.Output has = tt

-- an error with the contents of its file refuses with the same line
pub known_refused : (IsLine : List ℕ → Type 0) (contents : Contents) (plain e : CliFault)
    → e ≡ with_contents contents plain → Refuses IsLine plain → Refuses IsLine e
known_refused IsLine contents plain e is refuses =
    subst (λ (f : CliFault). Refuses IsLine f) (sym is) (contents_refuse IsLine contents plain refuses)

-- an error with a detail refuses with the same line
pub detailed_refused : (IsLine : List ℕ → Type 0) (detail : Option (String Global)) (plain e : CliFault)
    → e ≡ with_detail detail plain → Refuses IsLine plain → Refuses IsLine e
detailed_refused IsLine detail plain e is refuses =
    subst (λ (f : CliFault). Refuses IsLine f) (sym is) (detail_refuses IsLine detail plain refuses)

-- it is about the same argument
pub detailed_about : (about : About) (detail : Option (String Global)) (plain e : CliFault)
    → e ≡ with_detail detail plain → IsAbout about plain → IsAbout about e
detailed_about about detail plain e is same =
    subst (λ (f : CliFault). IsAbout about f) (sym is) (detail_about about detail plain same)

known_with : (file : List ℕ) (detail : Option (String Global)) (plain : CliFault) → KnowsFile file plain
    → KnowsFile file (with_detail detail plain)
known_with file detail (cli.Refused refusal) has = has
known_with file detail cli.Memory has = tt
known_with file detail (cli.Input unread) has = tt
known_with file detail cli.Output has = tt

-- it has the same contents
pub detailed_knows : (file : List ℕ) (detail : Option (String Global)) (plain e : CliFault)
    → e ≡ with_detail detail plain → KnowsFile file plain → KnowsFile file e
detailed_knows file detail plain e is has =
    subst (λ (f : CliFault). KnowsFile file f) (sym is) (known_with file detail plain has)

quoted_with : (f : Fault) (about : About) (detail : Option (String Global)) (plain : CliFault)
    → IsAbout about plain → option_map string_bytes detail ≡ quoted_cell f → QuotesCell f (with_detail detail plain)
quoted_with f about detail (cli.Refused refusal) same quotes = quotes
quoted_with f about detail cli.Memory same quotes = tt
quoted_with f about detail (cli.Input unread) same quotes = absurd same
quoted_with f about detail cli.Output same quotes = absurd same

-- its detail quotes the cell
pub detailed_quotes : (f : Fault) (about : About) (detail : Option (String Global)) (plain e : CliFault)
    → e ≡ with_detail detail plain → IsAbout about plain → option_map string_bytes detail ≡ quoted_cell f
    → QuotesCell f e
detailed_quotes f about detail plain e is same quotes =
    subst (λ (x : CliFault). QuotesCell f x) (sym is) (quoted_with f about detail plain same quotes)
