use Rattle.std.proofs.Common.{◌≡◌, ◌+◌, ◌-◌, ◌++◌, ℕ, List, Some, ap, ◌∙◌, sym, add-one, arith}
use Rattle.std.specs.List.{slice_get}
use Rattle.plan_orlib.specs.declared.steps.Step.{Step}
use Rattle.plan_shop.proofs.FlatLemmas.{flat_steps-take}
use Rattle.plan_shop.proofs.shop.flat_steps.Goals as goal

pub loop-place-preserved : goal.loop-place-preserved
loop-place-preserved c =
    let there : c.loop-place.place + 1 - 1 ≡ c.loop-place.place = omega arith in
    let here : slice_get c.args.doc.now.jobs c.loop-place.place ≡ Some c.steps.result.now =
    ap (λ (k : ℕ). slice_get c.args.doc.now.jobs k) (sym there) ∙ c.steps.ensures.steps in
    let row = flat_steps-take c.args.doc.now.jobs c.loop-place.place c.steps.result.now here in
    rw add-one (c.in_ok-extend_from_slice.ensures.items ∙ ap (λ (xs : List Step). xs ++ c.steps.result.now) c.loop-place.invariant ∙ sym row)
