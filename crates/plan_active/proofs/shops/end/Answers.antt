use Rattle.std.proofs.Common.{◌≡◌, ap, arith}
use Rattle.std.proofs.lemmas.Option.{get_or_from_slice_get}
use Rattle.plan_orlib.specs.declared.steps.Step.{Step}
use Rattle.plan_shop.specs.Shop.{JobShop, count_steps, time_of, idle}
use Rattle.plan_active.proofs.GuideLemmas.{pushed}
use Rattle.plan_active.proofs.shops.end.Goals as goal

pub start-requires-clause-step : goal.start-requires-clause-step
start-requires-clause-step c = (pushed c.args.tree.now c.push.new.self c.args.letter c.args.step c.requires.word c.requires.letter c.requires.step c.in_ok-push.ensures.ok).below

pub start-requires-clause-placed : goal.start-requires-clause-placed
start-requires-clause-placed c = (pushed c.args.tree.now c.push.new.self c.args.letter c.args.step c.requires.word c.requires.letter c.requires.step c.in_ok-push.ensures.ok).there

pub step-requires : goal.step-requires
step-requires c =
    let p = pushed c.args.tree.now c.push.new.self c.args.letter c.args.step c.requires.word c.requires.letter c.requires.step c.in_ok-push.ensures.ok in
    omega (arith, p.inside, ap (λ (v : JobShop). count_steps v) c.requires.shop)

pub returns-clause-end : goal.returns-clause-end
returns-clause-end c =
    let p = pushed c.args.tree.now c.push.new.self c.args.letter c.args.step c.requires.word c.requires.letter c.requires.step c.in_ok-push.ensures.ok in
    let time : time_of c.args.shop.now c.args.step ≡ c.step.result.time = ap (λ (w : Step). w.time) (get_or_from_slice_get c.args.shop.now.steps c.args.step c.step.result idle c.step.ensures.value) in
    let there : time_of c.args.shop.now c.args.step ≡ time_of c.args.tree.now.shop c.args.step = ap (λ (v : JobShop). time_of v c.args.step) c.requires.shop in
    omega (arith, c.start.ensures.value, p.start, time, there, ap (time_of c.args.tree.now.shop) c.requires.step)
