use Rattle.std.proofs.Common.{ℕ, ◌≡◌, ◌<◌, sym, ◌∙◌, ap, arith}
use Rattle.std.proofs.lemmas.Bool.{both_ways}
use Rattle.plan_sgs.specs.Problem.{count, total}
use Rattle.plan_sgs.proofs.StartLemmas.{amount_at, total_next, usage_is}
use Rattle.plan_shop.specs.Shop.{count_steps, problem_of}
use Rattle.plan_shop.proofs.ShopBasics.{count_is}
use Rattle.plan_shop.proofs.CheckLemmas.{under_way_one, not_under_way}
use Rattle.plan_shop.proofs.checks.overloads.usage_at.Goals as goal
use Rattle.plan_shop.proofs.checks.overloads.usage_at.Goals.{then-is_under_way, else-is_under_way}

pub loop-x-preserved : goal.loop-x-preserved
loop-x-preserved c =
    let s = c.args.shop.now in
    let starts = c.args.starts.now in
    let x = c.loop-x.x in
    let below : x < count_steps s = omega (arith, c.loop-x-test.true, c.count-x-end.ensures.value) in
    let next = total_next x (amount_at (problem_of s) starts c.args.t c.args.machine) in
    elim c.if-is_under_way.branch [
      | then-is_under_way w ↦
          let one = under_way_one s starts c.args.t c.args.machine x below (c.is_under_way.ensures.0 w.if-is_under_way.true) in
          record { sum = omega (arith, w.used-is, c.loop-x.invariant.sum, one, next); few = omega (arith, w.used-is, c.loop-x.invariant.few) }
      | else-is_under_way w ↦
          let none = not_under_way s starts c.args.t c.args.machine x below (λ way. both_ways c.is_under_way.result w.if-is_under_way.false (c.is_under_way.ensures.1 way)) in
          record { sum = omega (arith, w.used-is, c.loop-x.invariant.sum, none, next); few = omega (arith, w.used-is, c.loop-x.invariant.few) }
    ]

pub returns : goal.returns
returns c =
    let s = c.args.shop.now in
    let starts = c.args.starts.now in
    let p = problem_of s in
    let all : c.loop-x.x ≡ count p = omega (arith, c.loop-x.auto.x-end, c.loop-x-test.false, c.count-x-end.ensures.value, count_is s) in
    c.loop-x.invariant.sum ∙ ap (λ (n : ℕ). total n (amount_at p starts c.args.t c.args.machine)) all ∙ sym (usage_is p starts c.args.t c.args.machine (c.requires.whole ∙ sym (count_is s)))
