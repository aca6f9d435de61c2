use Rattle.std.proofs.Common.{ℕ, suc, ◌≡◌, ◌+◌, ◌-◌, subst, arith}
use Rattle.plan_sgs.specs.Verdicts.{IsFirstBroken}
use Rattle.plan_shop.specs.Shop.{problem_of}
use Rattle.plan_shop.proofs.CheckLemmas.{kept_arcs, broken_first}
use Rattle.plan_shop.proofs.checks.broken.first_broken.Goals as goal

pub returns-then-is_broken_after : goal.returns-then-is_broken_after
returns-then-is_broken_after c =
    let s = c.args.shop.now in
    let starts = c.args.starts.now in
    let x = c.loop-x.x in
    let broken = c.is_broken_after.ensures.0 c.if-is_broken_after.true in
    let first = broken_first s starts x (omega (arith, c.loop-x-test.true, c.count-x-end.ensures.value)) broken c.loop-x.invariant in
    let here : x ≡ x + 1 - 1 = omega arith in
    let next : suc x ≡ x + 2 - 1 = omega arith in
    (omega arith, omega arith, subst (λ (j : ℕ). IsFirstBroken (problem_of s) starts (x + 1 - 1) j) next (subst (λ (i : ℕ). IsFirstBroken (problem_of s) starts i (suc x)) here first))

pub returns : goal.returns
returns c =
    kept_arcs c.args.shop.now c.count-x-end.ensures.shop.shop c.args.starts.now (λ x below. c.loop-x.invariant x (omega (arith, below, c.loop-x-test.false, c.count-x-end.ensures.value)))
