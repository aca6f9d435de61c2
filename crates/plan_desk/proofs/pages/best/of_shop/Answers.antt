use Rattle.std.proofs.Common.{length, ap, ◌∙◌, subst}
use Rattle.std.specs.Prelude.{string_bytes}
use Rattle.plan_orlib.specs.Says.{Says}
use Rattle.plan_desk.specs.PlanValues.{machines_in}
use Rattle.plan_desk.proofs.PlaceLemmas.{length-machines_in}
use Rattle.plan_desk.proofs.BestLemmas.{shop_answered}
use Rattle.plan_desk.proofs.pages.best.of_shop.Goals as goal

pub best_of_shop-requires : goal.best_of_shop-requires
best_of_shop-requires c =
    ap length c.deref-3.ensures.value ∙ ap length c.in_ok-usable.ensures ∙ length-machines_in c.deref-2.result.now c.machines.result
    ∙ c.machines.ensures.value

pub returns-clause-made : goal.returns-clause-made
returns-clause-made c =
    let bound = c.args.bound.now in
    let doc = c.in_ok-doc.doc in
    shop_answered string_bytes string_bytes _ bound c.args.budget.now doc c.deref-3.result.now c.requires
    (subst (λ name. Says name bound.plan.body.items doc) c.as_str.ensures.value
    (subst (λ file. Says c.as_str.result.now file doc) c.deref.ensures.value c.in_ok-doc.ensures.said))
    (c.deref-3.ensures.value ∙ c.in_ok-usable.ensures ∙ ap (λ places. machines_in places c.machines.result) c.deref-2.ensures.value
    ∙ ap (machines_in bound.places.items) c.machines.ensures.value)
    c.in_ok-best_of_shop.ensures
