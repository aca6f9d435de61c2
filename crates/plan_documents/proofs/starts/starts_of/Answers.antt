use Rattle.std.proofs.Common.{IfErr, sym, subst}
use Rattle.plan_net.specs.Network.{Net}
use Rattle.plan_errors.specs.Output.{Refuses}
use Rattle.plan_report.specs.IdSheets.{id_sheet}
use Rattle.plan_documents.specs.Documents.{sheet_of}
use Rattle.plan_documents.specs.Starts.{TellsNoStarts}
use Rattle.plan_documents.specs.declared.documents.Plan.{Plan}
use Rattle.plan_documents.proofs.starts.starts_of.Goals as goal

pub returns-in-Project-clause-refused : goal.returns-in-Project-clause-refused
returns-in-Project-clause-refused c =
    let r = c.read_starts.result in
    let text = c.args.text.now in
    subst (λ (p : Plan). IfErr r (Refuses (TellsNoStarts (sheet_of p) text))) (sym c.in-Project.is)
    (subst (λ (n : Net). IfErr r (Refuses (TellsNoStarts (id_sheet c.in-Project.ids n) text))) c.network.ensures.network
    c.read_starts.ensures.refused)

pub returns-in-Shop-clause-refused : goal.returns-in-Shop-clause-refused
returns-in-Shop-clause-refused c =
    subst (λ (p : Plan). IfErr c.read_shop_starts.result (Refuses (TellsNoStarts (sheet_of p) c.args.text.now))) (sym c.in-Shop.is)
    c.read_shop_starts.ensures.refused
