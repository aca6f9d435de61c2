use Rattle.std.proofs.Common.{ℕ, ◌≡◌, sym, ◌∙◌, subst, arith}
use Rattle.plan_sgs.specs.Problem.{count}
use Rattle.plan_sgs.specs.Checks.{IsOverAmong}
use Rattle.plan_sgs.proofs.Findings.{over_answer}
use Rattle.plan_shop.specs.Shop.{problem_of}
use Rattle.plan_shop.proofs.ShopBasics.{count_is}
use Rattle.plan_shop.proofs.checks.overloads.first_over.Goals as goal

pub returns : goal.returns
returns c =
    let s = c.args.shop.now in
    let starts = c.args.starts.now in
    let all : c.loop-i.i ≡ count (problem_of s) = omega (arith, c.loop-i.auto.i-end, c.loop-i-test.false, c.requires.whole, count_is s) in
    over_answer (problem_of s) starts c.loop-i.least (c.requires.whole ∙ sym (count_is s)) c.requires.arcs
    (subst (λ (n : ℕ). IsOverAmong (problem_of s) starts n c.loop-i.least) all c.loop-i.invariant)
