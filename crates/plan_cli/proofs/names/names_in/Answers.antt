use Rattle.std.proofs.Common.{rules, ◌⊎◌, IfErr}
use Rattle.plan_psplib.specs.Faults.{IsWantOfMemory}
use Rattle.plan_psplib.specs.Plain.{plain}
use Rattle.plan_orlib.specs.ShopText as reading
use Rattle.plan_errors.specs.Output.{Refuses}
use Rattle.plan_documents.specs.Lines.{Tells}
use Rattle.plan_cli.specs.NamesRun.{TellsNotPlain}
use Rattle.plan_orlib.proofs.NameLemmas.{mapped}
use Rattle.plan_cli.proofs.RunLemmas.{told_not_plain}
use Rattle.plan_cli.proofs.names.names_in.Goals as goal

pub returns-in_err-names-clause-refused : goal.returns-in_err-names-clause-refused
returns-in_err-names-clause-refused c =
    let file = c.args.file.now in
    let refused = c.names.ensures.refused in
    let told = mapped c.names.result c.map_err.result _ (λ told. IfErr told (Refuses (TellsNotPlain file)))
    c.map_err.ensures.cases (λ names is. tt)
    (λ fault e is learnt.
    let failing : IsWantOfMemory fault ⊎ reading.FailsWith (plain file) fault = search rules in
    let tells : Refuses (Tells fault) e = search rules in
    told_not_plain file fault e failing tells) in
    search rules
