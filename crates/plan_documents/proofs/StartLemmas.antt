-- The errors of texts of starts.
use Rattle.std.proofs.Common.{List, ℕ, Err, refl, ap, ◌∙◌}
use Rattle.plan_psplib.specs.declared.text.fault.Fault.{Fault}
use Rattle.plan_psplib.specs.declared.text.fault.FileFault.{FileFault}
use Rattle.plan_psplib.specs.declared.text.fault.ReadError.{ReadError}
use Rattle.plan_psplib.specs.declared.text.fault.ReadError.TheVariants as errors
use Rattle.plan_psplib.specs.Faults.{TellsError}
use Rattle.plan_psplib.specs.Tokens.{Fails}
use Rattle.plan_report.specs.Sheet.{Sheet}
use Rattle.plan_report.specs.StartsText.{starts_in}
use Rattle.plan_errors.specs.declared.fault.CliFault.{CliFault}
use Rattle.plan_errors.specs.Output.{Refuses}
use Rattle.plan_documents.specs.Starts.{TellsStarts, TellsNoStarts}
use Rattle.plan_documents.proofs.ErrorLemmas.{refuses_as}

-- the reported error is the first check that the text of starts fails
pub told_no_starts : (sheet : Sheet) (text : List ℕ) (error : ReadError) (first : FileFault) (e : CliFault)
    → Fails error (starts_in sheet text) → TellsError error first → Refuses (TellsStarts first) e
    → Refuses (TellsNoStarts sheet text) e
told_no_starts sheet text errors.Memory first e failing is t = refuses_as (TellsStarts first) (TellsNoStarts sheet text) e (λ line tells. absurd (tells.0 is.0)) t
told_no_starts sheet text (errors.Fault f) first e failing is t =
    let here : Path Fault f (record { code = first.code; line = first.line }) = rw (is.0, is.1) refl in
    refuses_as (TellsStarts first) (TellsNoStarts sheet text) e (λ line tells. (first, (failing ∙ ap Err here, is.2), tells.1)) t
