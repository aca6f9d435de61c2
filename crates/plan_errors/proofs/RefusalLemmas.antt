-- Refusals by their lines.
use Rattle.std.proofs.Common.{◌≡◌, ◌⊎◌, inl, inr, ℕ, List, ◌++◌, Option, String, Result, Ok, Err, Vec, refl, sym, subst}
use Rattle.std.specs.Prelude.{IfOk, IfErr}
use Rattle.std.specs.Global.{Global}
use Rattle.plan_errors.specs.Codes.{name_of}
use Rattle.plan_errors.specs.Faults.{refusal_of, IsAbout, IsUnread, with_contents, with_detail}
use Rattle.plan_errors.specs.Output.{Refuses}
use Rattle.plan_errors.specs.Parts.{parts_text}
use Rattle.plan_errors.specs.declared.codes.Code.{Code}
use Rattle.plan_errors.specs.declared.context.Contents.{Contents}
use Rattle.plan_errors.specs.declared.context.About.{About}
use Rattle.plan_errors.specs.declared.fault.CliFault.{CliFault}
use Rattle.plan_errors.specs.declared.fault.CliFault.TheVariants as cli
use Rattle.plan_errors.specs.declared.parts.Part.{Part}

-- an error with these parts refuses with their line
pub refused_with : {E : Type 0} (IsLine : List ℕ → Type 0) (code : Code) (about : About)
    (parts : Result (Vec Part Global) E) (e : CliFault)
    → IfOk parts (λ list. IsLine (name_of code ++ parts_text list.items))
    → IfOk parts (λ list. e ≡ cli.Refused (refusal_of code about list)) → IfErr parts (λ _. e ≡ cli.Memory)
    → Refuses IsLine e
refused_with IsLine code about (Ok list) e is made memory = subst (λ (f : CliFault). Refuses IsLine f) (sym made) is
refused_with IsLine code about (Err x) e is made memory = subst (λ (f : CliFault). Refuses IsLine f) (sym memory) tt

-- the contents of the file don't change the line
pub contents_refuse : (IsLine : List ℕ → Type 0) (contents : Contents) (e : CliFault)
    → Refuses IsLine e → Refuses IsLine (with_contents contents e)
contents_refuse IsLine contents (cli.Refused refusal) refuses = refuses
contents_refuse IsLine contents cli.Memory refuses = tt
contents_refuse IsLine contents (cli.Input unread) refuses = absurd refuses
contents_refuse IsLine contents cli.Output refuses = absurd refuses

-- nor the argument
pub contents_about : (about : About) (contents : Contents) (e : CliFault)
    → IsAbout about e → IsAbout about (with_contents contents e)
contents_about about contents (cli.Refused refusal) is = is
contents_about about contents cli.Memory is = tt
contents_about about contents (cli.Input unread) is = absurd is
contents_about about contents cli.Output is = absurd is

-- a detail doesn't change the line
pub detail_refuses : (IsLine : List ℕ → Type 0) (detail : Option (String Global)) (e : CliFault)
    → Refuses IsLine e → Refuses IsLine (with_detail detail e)
detail_refuses IsLine detail (cli.Refused refusal) refuses = refuses
detail_refuses IsLine detail cli.Memory refuses = tt
detail_refuses IsLine detail (cli.Input unread) refuses = absurd refuses
detail_refuses IsLine detail cli.Output refuses = absurd refuses

-- nor the argument
pub detail_about : (about : About) (detail : Option (String Global)) (e : CliFault)
    → IsAbout about e → IsAbout about (with_detail detail e)
detail_about about detail (cli.Refused refusal) is = is
detail_about about detail cli.Memory is = tt
detail_about about detail (cli.Input unread) is = absurd is
detail_about about detail cli.Output is = absurd is

-- an error that refuses isn't that of a file that can't be read
pub refuses_unread : (IsLine : List ℕ → Type 0) (about : About) (e : CliFault) → Refuses IsLine e → IsUnread about e
refuses_unread IsLine about (cli.Refused refusal) refuses = tt
refuses_unread IsLine about cli.Memory refuses = tt
refuses_unread IsLine about (cli.Input unread) refuses = absurd refuses
refuses_unread IsLine about cli.Output refuses = tt

-- the error of a file that isn't read is that of this file
pub input_unread : (about : About) (e : CliFault) → (e ≡ cli.Memory) ⊎ (e ≡ cli.Input about) → IsUnread about e
input_unread about e (inl is) = subst (λ (f : CliFault). IsUnread about f) (sym is) tt
input_unread about e (inr is) = subst (λ (f : CliFault). IsUnread about f) (sym is) refl

-- the same with other facts
pub read_unread : (about : About) (e : CliFault) (Same More : Type 0)
    → ((e ≡ cli.Memory) × Same) ⊎ ((e ≡ cli.Input about) × More) → IsUnread about e
read_unread about e Same More (inl is) = input_unread about e (inl is.0)
read_unread about e Same More (inr is) = input_unread about e (inr is.0)

-- the error of the output is that of no file that can't be read
pub output_unread : (about : About) (e : CliFault) (More : Type 0) → (e ≡ cli.Output) × More → IsUnread about e
output_unread about e More is = subst (λ (f : CliFault). IsUnread about f) (sym is.0) tt
