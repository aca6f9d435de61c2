use Rattle.std.proofs.Common.{◌≡◌, ◌+◌, ◌∙◌, ℕ, ap, max, add-one, arith}
use Rattle.plan_sgs.specs.Problem.{greatest_below}
use Rattle.plan_shop.specs.Shop.{count_steps, time_of}
use Rattle.plan_shop.specs.Words.{start_in}
use Rattle.plan_shop.specs.Trees.{placed}
use Rattle.plan_shop.proofs.HeldLemmas.{held}
use Rattle.plan_shop.proofs.PlacingLemmas.{time-short}
use Rattle.plan_shop.proofs.FullLemmas.{full-placed, makespan_of-is, count-read, time-read}
use Rattle.plan_shop.proofs.tree.ShopTree.makespan.Goals as goal

pub start-requires-clause-placed : goal.start-requires-clause-placed
start-requires-clause-placed c =
    let h = held _ _ _ _ _ _ _ _ c.self.view_is c.self.invariant.kept in
    let count = count-read c.self.inside.shop.now _ c.args.self.now c.self.view_is c.jobs.ensures.shop.shop c.jobs.result c.machines.result c.jobs.ensures.value c.machines.ensures.value in
    full-placed c.args.self.now.shop h.small.shop (placed c.args.self.now) c.requires c.loop-i.i (omega (arith, count, c.loop-i-test.true))

pub overflow_add-start : goal.overflow_add-start
overflow_add-start c =
    let time = time-read c.self.inside.shop.now _ c.args.self.now c.self.view_is c.loop-i.i c.step.result c.step.ensures.value in
    let h = held _ _ _ _ _ _ _ _ c.self.view_is c.self.invariant.kept in
    let short = time-short c.args.self.now.shop h.small c.loop-i.i in
    omega (arith, time, short, c.start.ensures.within)

pub loop-i-preserved : goal.loop-i-preserved
loop-i-preserved c =
    let time = time-read c.self.inside.shop.now _ c.args.self.now c.self.view_is c.loop-i.i c.step.result c.step.ensures.value in
    let end : c.start.result + c.step.result.time ≡ start_in (placed c.args.self.now) c.loop-i.i + time_of c.args.self.now.shop c.loop-i.i = omega (arith, time, c.start.ensures.value) in
    rw add-one (c.max-makespan.ensures ∙ ap (λ (n : ℕ). max n (c.start.result + c.step.result.time)) c.loop-i.invariant
    ∙ ap (λ (n : ℕ). max (greatest_below c.loop-i.i (λ x. start_in (placed c.args.self.now) x + time_of c.args.self.now.shop x)) n) end)

pub returns : goal.returns
returns c =
    let count = count-read c.self.inside.shop.now _ c.args.self.now c.self.view_is c.jobs.ensures.shop.shop c.jobs.result c.machines.result c.jobs.ensures.value c.machines.ensures.value in
    let all : c.loop-i.i ≡ count_steps c.args.self.now.shop = omega (arith, count, c.loop-i-test.false) in
    c.loop-i.invariant ∙ ap (λ (n : ℕ). greatest_below n (λ x. start_in (placed c.args.self.now) x + time_of c.args.self.now.shop x)) all ∙ makespan_of-is c.args.self.now.shop (placed c.args.self.now)
