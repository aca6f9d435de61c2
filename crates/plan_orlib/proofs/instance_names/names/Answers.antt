use Rattle.std.proofs.Common.{rules, map, ◌≡◌, Ok, IfOk, IfErr, ◌⊎◌}
use Rattle.plan_psplib.specs.Faults.{IsWantOfMemory, TellsError}
use Rattle.plan_psplib.specs.Tokens.{Fails}
use Rattle.plan_orlib.specs.ShopText.{FailsWith, names}
use Rattle.plan_orlib.specs.Instances.{names_of}
use Rattle.plan_psplib.specs.Plain.{plain}
use Rattle.plan_orlib.proofs.NameLemmas.{mapped, told_plain, names_read, names_only}
use Rattle.plan_orlib.proofs.instance_names.names.Goals as goal

pub returns-clause-early : goal.returns-clause-early
returns-clause-early c = λ f is. let early = c.checked_names.ensures.early f is in search rules

pub returns-clause-found : goal.returns-clause-found
returns-clause-found c =
    let text = c.args.text.now in
    let read = c.checked_names.result in
    let exact = c.checked_names.ensures.exact in
    mapped read c.map_err.result _ (λ told. IfOk told (λ names. (plain text ≡ Ok tt)
    × (map (λ name. name.items) names.items ≡ names_of text))) c.map_err.ensures.cases
    (λ given is. names_read text (map (λ name. name.items) given.items) (search rules))
    (λ e fault is tells. tt)

pub returns-clause-only : goal.returns-clause-only
returns-clause-only c = λ good.
    let text = c.args.text.now in
    let read = c.checked_names.result in
    let exact = c.checked_names.ensures.exact in
    mapped read c.map_err.result _ (λ told. IfErr told IsWantOfMemory) c.map_err.ensures.cases
    (λ given is. tt)
    (λ e fault is learnt.
    let tells : TellsError e fault = search rules in
    let fails : Fails e (names text) = search rules in
    names_only text e fault good fails tells)

pub returns-clause-refused : goal.returns-clause-refused
returns-clause-refused c =
    let text = c.args.text.now in
    let read = c.checked_names.result in
    let exact = c.checked_names.ensures.exact in
    mapped read c.map_err.result _ (λ told. IfErr told (λ fault. IsWantOfMemory fault ⊎ FailsWith (plain text) fault)) c.map_err.ensures.cases
    (λ given is. tt)
    (λ e fault is learnt.
    let tells : TellsError e fault = search rules in
    let fails : Fails e (names text) = search rules in
    told_plain text e fault fails tells)
