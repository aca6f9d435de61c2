-- The errors of starts with the names in a file.
use Rattle.std.proofs.Common.{◌≡◌, ◌⊎◌, inl, inr, ℕ, List, Option, String, refl, sym, subst}
use Rattle.std.specs.Prelude.{option_map, string_bytes}
use Rattle.std.specs.Global.{Global}
use Rattle.plan_errors.specs.Faults.{code_of, with_detail}
use Rattle.plan_errors.specs.Output.{Refuses}
use Rattle.plan_errors.specs.declared.codes.Code.TheVariants as code
use Rattle.plan_errors.specs.declared.fault.CliFault.{CliFault}
use Rattle.plan_errors.specs.declared.fault.CliFault.TheVariants as cli
use Rattle.plan_errors.proofs.RefusalLemmas.{detail_refuses}
use Rattle.plan_documents.specs.Details.{fault_sentence, IsDetailed, NamesVerdict}
use Rattle.plan_documents.specs.declared.documents.Subject.{Subject}

-- an error of another kind has no verdict to name
pub other_names : (s : Subject) (file : List ℕ) (e : CliFault) → (code_of e ≡ code.Infeasible → ⊥)
    → NamesVerdict s file e
other_names s file (cli.Refused refusal) other = λ is. absurd (other is)
other_names s file cli.Memory other = tt
other_names s file (cli.Input unread) other = tt
other_names s file cli.Output other = tt

detail_names : (s : Subject) (file : List ℕ) (plain : CliFault) (detail : Option (String Global))
    → option_map string_bytes detail ≡ fault_sentence s file plain
    → NamesVerdict s file (with_detail detail plain)
detail_names s file (cli.Refused refusal) detail is = λ infeasible. is
detail_names s file cli.Memory detail is = tt
detail_names s file (cli.Input unread) detail is = tt
detail_names s file cli.Output detail is = tt

-- an error with its sentence as the detail names the verdict
pub verdict_names : (s : Subject) (file : List ℕ) (plain e : CliFault) (detail : Option (String Global))
    → e ≡ with_detail detail plain → option_map string_bytes detail ≡ fault_sentence s file plain
    → NamesVerdict s file e
verdict_names s file plain e detail made is =
    subst (λ (f : CliFault). NamesVerdict s file f) (sym made) (detail_names s file plain detail is)

-- an error with another detail
pub with_other_detail : (detail : Option (String Global)) (plain e : CliFault) → e ≡ with_detail detail plain
    → IsDetailed plain e
with_other_detail detail plain e made = inr (inr (detail, made))

-- a detail doesn't change the line of an error
pub detailed_refuses : (IsLine : List ℕ → Type 0) (plain e : CliFault) → IsDetailed plain e
    → Refuses IsLine plain → Refuses IsLine e
detailed_refuses IsLine plain e (inl memory) refuses = subst (λ (f : CliFault). Refuses IsLine f) (sym memory) tt
detailed_refuses IsLine plain e (inr (inl same)) refuses = subst (λ (f : CliFault). Refuses IsLine f) (sym same) refuses
detailed_refuses IsLine plain e (inr (inr (detail, made))) refuses =
    subst (λ (f : CliFault). Refuses IsLine f) (sym made) (detail_refuses IsLine detail plain refuses)
