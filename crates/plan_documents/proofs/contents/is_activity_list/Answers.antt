use Rattle.std.proofs.Common.{sym, subst, ◌∙◌}
use Rattle.plan_table.specs.Refused.{IsRefused}
use Rattle.plan_table.specs.declared.fault.ReadError.{ReadError}
use Rattle.plan_documents.proofs.ContentsLemmas.{activities_refused}
use Rattle.plan_documents.proofs.contents.is_activity_list.Goals as goal

pub returns : goal.returns
returns c = λ is.
    activities_refused c.args.text.now c.in-Err-Fault.fault
    (subst (λ (e : ReadError). IsRefused c.args.text.now e) c.in-Err-Fault.field-0-is c.in-Err-Fault.ensures.refused)
    (sym c.is_in_activities.ensures ∙ is)
