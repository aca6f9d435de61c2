use Rattle.std.proofs.Common.{rules, ◌≡◌, IfOk, IfErr, length}
use Rattle.std.specs.Prelude.{All}
use Rattle.plan_net.specs.Network.{count_of}
use Rattle.plan_profile.specs.Usage.{IsInTime}
use Rattle.plan_psplib.specs.Tokens.{Fails}
use Rattle.plan_orlib.proofs.NameLemmas.{mapped}
use Rattle.plan_report.specs.IdSheets.{id_sheet}
use Rattle.plan_report.specs.StartsText.{SaysStarts, starts_in}
use Rattle.plan_errors.specs.Output.{Refuses}
use Rattle.plan_documents.specs.Starts.{IsStartsError, TellsNoStarts}
use Rattle.plan_documents.proofs.StartLemmas.{told_no_starts}
use Rattle.plan_documents.proofs.starts.read_starts.Goals as goal

pub returns-clause-said : goal.returns-clause-said
returns-clause-said c =
    mapped c.read_id_starts_text.result c.map_err.result _ (λ told. IfOk told (λ starts. SaysStarts (id_sheet c.args.ids.now c.args.network.now) c.args.text.now starts.items))
    c.map_err.ensures.cases (λ starts is. search rules) (λ error e is learnt. tt)

pub returns-clause-whole : goal.returns-clause-whole
returns-clause-whole c =
    mapped c.read_id_starts_text.result c.map_err.result _ (λ told. IfOk told (λ starts. length starts.items ≡ count_of c.args.network.now))
    c.map_err.ensures.cases (λ starts is. search rules) (λ error e is learnt. tt)

pub returns-clause-in_time : goal.returns-clause-in_time
returns-clause-in_time c =
    mapped c.read_id_starts_text.result c.map_err.result _ (λ told. IfOk told (λ starts. All IsInTime starts.items))
    c.map_err.ensures.cases (λ starts is. search rules) (λ error e is learnt. tt)

pub returns-clause-refused : goal.returns-clause-refused
returns-clause-refused c =
    let sheet = id_sheet c.args.ids.now c.args.network.now in
    let text = c.args.text.now in
    mapped c.read_id_starts_text.result c.map_err.result _ (λ told. IfErr told (Refuses (TellsNoStarts sheet text)))
    c.map_err.ensures.cases (λ starts is. tt)
    (λ error e is learnt.
    let told : IsStartsError error e = search rules in
    let fails : Fails error (starts_in sheet text) = search rules in
    told_no_starts sheet text error told.first e fails told.read told.told)
