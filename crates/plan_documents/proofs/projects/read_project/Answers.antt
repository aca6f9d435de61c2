use Rattle.std.proofs.Common.{rules, ◌⊎◌, IfErr}
use Rattle.plan_psplib.specs.Faults.{IsWantOfMemory}
use Rattle.plan_psplib.specs.Project.{IsFirstFailing}
use Rattle.plan_gantt.specs.FirstFaults.{TellsFirstFailing}
use Rattle.plan_errors.specs.Output.{Refuses}
use Rattle.plan_documents.specs.Lines.{Tells}
use Rattle.plan_orlib.proofs.NameLemmas.{mapped}
use Rattle.plan_documents.proofs.ErrorLemmas.{told_refuses}
use Rattle.plan_documents.proofs.projects.read_project.Goals as goal

pub returns-clause-refused : goal.returns-clause-refused
returns-clause-refused c =
    let file = c.args.file.now in
    let refused = c.read_sm.ensures.refused in
    mapped c.read_sm.result c.map_err.result _ (λ told. IfErr told (Refuses (TellsFirstFailing file)))
    c.map_err.ensures.cases (λ project is. tt)
    (λ fault e is learnt.
    let failing : IsWantOfMemory fault ⊎ IsFirstFailing file fault = search rules in
    let tells : Refuses (Tells fault) e = search rules in
    told_refuses file fault e failing tells)
