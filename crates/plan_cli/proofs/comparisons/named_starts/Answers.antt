use Rattle.std.proofs.Common.{rules, ◌≡◌, IfOk, IfErr, length}
use Rattle.std.specs.Prelude.{All}
use Rattle.plan_profile.specs.Usage.{IsInTime}
use Rattle.plan_orlib.proofs.NameLemmas.{mapped}
use Rattle.plan_report.specs.StartsText.{SaysStarts}
use Rattle.plan_errors.specs.Output.{Refuses}
use Rattle.plan_cli.specs.CompareRun.{IsNamedFault, TellsNoStartsOf}
use Rattle.plan_documents.specs.Documents.{count_of, sheet_of}
use Rattle.plan_documents.specs.Starts.{TellsNoStarts}
use Rattle.plan_cli.proofs.CompareLemmas.{named_refuses}
use Rattle.plan_cli.proofs.comparisons.named_starts.Goals as goal

pub returns-clause-said : goal.returns-clause-said
returns-clause-said c =
    mapped c.starts_of.result c.map_err.result _ (λ told. IfOk told (λ starts. SaysStarts (sheet_of c.args.plan.now) c.args.text.now starts.items))
    c.map_err.ensures.cases (λ starts is. search rules) (λ error e is learnt. tt)

pub returns-clause-whole : goal.returns-clause-whole
returns-clause-whole c =
    mapped c.starts_of.result c.map_err.result _ (λ told. IfOk told (λ starts. length starts.items ≡ count_of c.args.plan.now))
    c.map_err.ensures.cases (λ starts is. search rules) (λ error e is learnt. tt)

pub returns-clause-in_time : goal.returns-clause-in_time
returns-clause-in_time c =
    mapped c.starts_of.result c.map_err.result _ (λ told. IfOk told (λ starts. All IsInTime starts.items))
    c.map_err.ensures.cases (λ starts is. search rules) (λ error e is learnt. tt)

pub returns-clause-refused : goal.returns-clause-refused
returns-clause-refused c =
    let sheet = sheet_of c.args.plan.now in
    let text = c.args.text.now in
    let name = c.args.name.now in
    mapped c.starts_of.result c.map_err.result _ (λ told. IfErr told (Refuses (TellsNoStartsOf name sheet text)))
    c.map_err.ensures.cases (λ starts is. tt)
    (λ error e is learnt.
    let told : Refuses (TellsNoStarts sheet text) error = search rules in
    let named : IsNamedFault name error e = search rules in
    named_refuses name sheet text error e told named)
