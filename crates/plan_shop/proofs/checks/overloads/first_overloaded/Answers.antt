use Rattle.std.proofs.Common.{ℕ, ◌≡◌, ◌≤◌, ◌<◌, inl, inr, subst, arith}
use Rattle.std.proofs.lemmas.Bool.{cases_lt}
use Rattle.plan_sgs.specs.Verdicts.{IsOver}
use Rattle.plan_shop.specs.Shop.{problem_of}
use Rattle.plan_shop.proofs.CheckLemmas.{over_from, not_over, over_inside}
use Rattle.plan_shop.proofs.checks.overloads.first_overloaded.Goals as goal

pub returns-then-usage_at-gt1-clause-some : goal.returns-then-usage_at-gt1-clause-some
returns-then-usage_at-gt1-clause-some c =
    let s = c.args.shop.now in
    let m = c.loop-machine.machine in
    let few : s.machines ≤ 20 = c.machines-machine-end.ensures.shop.few_machines in
    let inside : m < s.machines = omega (arith, c.loop-machine-test.true, c.machines-machine-end.ensures.value) in (
      omega (arith, inside, few),
      (
        over_from s c.args.starts.now c.args.t m c.usage_at.result inside c.usage_at.ensures c.if-usage_at-gt1.true,
        λ l over. elim (cases_lt l m) [ inl before ↦ absurd (c.loop-machine.invariant l before over) | inr after ↦ after ],
      ),
    )

pub loop-machine-preserved : goal.loop-machine-preserved
loop-machine-preserved c = λ k below over. elim (cases_lt k c.loop-machine.machine) [
  | inl before ↦ c.loop-machine.invariant k before over
  | inr after ↦
      let s = c.args.shop.now in
      let same : k ≡ c.loop-machine.machine = omega (arith, below, after) in
      not_over s c.args.starts.now c.args.t c.loop-machine.machine c.usage_at.result c.usage_at.ensures
      c.if-usage_at-gt1.false (subst (λ (m : ℕ). IsOver (problem_of s) c.args.starts.now c.args.t m) same
      over)
]

pub returns-clause-none : goal.returns-clause-none
returns-clause-none c = λ l over.
    c.loop-machine.invariant l (omega (arith, over_inside c.args.shop.now c.args.starts.now c.args.t l over, c.loop-machine-test.false, c.machines-machine-end.ensures.value)) over
