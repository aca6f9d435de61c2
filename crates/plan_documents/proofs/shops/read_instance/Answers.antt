use Rattle.std.proofs.Common.{rules, ◌⊎◌, List, ℕ, subst, IfErr}
use Rattle.plan_psplib.specs.Faults.{IsWantOfMemory}
use Rattle.plan_orlib.specs.ShopText as reading
use Rattle.plan_gantt.specs.FirstFaults.{TellsFirstShopFault}
use Rattle.plan_errors.specs.Output.{Refuses}
use Rattle.plan_documents.specs.Lines.{Tells}
use Rattle.plan_orlib.proofs.NameLemmas.{mapped}
use Rattle.plan_documents.proofs.ErrorLemmas.{told_no_shop}
use Rattle.plan_documents.proofs.shops.read_instance.Goals as goal

pub returns-clause-refused : goal.returns-clause-refused
returns-clause-refused c =
    let instance = c.args.instance.now in
    let file = c.args.file.now in
    let refused = c.read_shop.ensures.refused in
    mapped c.read_shop.result c.map_err.result _ (λ told. IfErr told (Refuses (TellsFirstShopFault instance file)))
    c.map_err.ensures.cases (λ doc is. tt)
    (λ fault e is learnt.
    let failing : IsWantOfMemory fault ⊎ reading.FailsWith (reading.shop c.as_bytes.result.now file) fault = search rules in
    let named = subst (λ (name : List ℕ). IsWantOfMemory fault ⊎ reading.FailsWith (reading.shop name file) fault) c.as_bytes.ensures.value failing in
    let tells : Refuses (Tells fault) e = search rules in
    told_no_shop instance file fault e named tells)
