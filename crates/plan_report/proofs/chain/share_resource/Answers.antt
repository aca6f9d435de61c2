use Rattle.std.proofs.Common.{◌≡◌, ◌+◌, ◌-◌, length, false, refl, sym, ◌∙◌, ap, arith}
use Rattle.std.proofs.lemmas.Bool.{both_ways}
use Rattle.plan_sgs.specs.Instances.{problem_of}
use Rattle.plan_sgs.proofs.InstanceLemmas.{capacities-problem, need-problem}
use Rattle.plan_report.proofs.chain.share_resource.Goals as goal

pub returns-then-after-k-gt0 : goal.returns-then-after-k-gt0
returns-then-after-k-gt0 c =
    let i = c.args.instance.now in
    let k = c.loop-k.k in
    let one : c.args.i ≡ c.args.i - 1 + 1 = omega (arith, c.requires.before.0) in
    let two : c.args.j ≡ c.args.j - 1 + 1 = omega (arith, c.requires.after.0) in
    let wide : length c.needs-before.result.now ≡ length (problem_of i).capacities = c.needs-before.ensures.amounts.0 ∙ sym (ap length (capacities-problem i)) in
    let first = need-problem i (c.args.i - 1) c.args.i c.needs-before.result.now one c.needs-before.ensures.row k in
    let second = need-problem i (c.args.j - 1) c.args.j c.needs-after.result.now two c.needs-after.ensures.row k in (
      λ yes. (k, omega (arith, c.loop-k-test.true, wide), omega (arith, first, c.if-before-k-gt0.true), omega (arith, second, c.if-after-k-gt0.true)),
      λ shared. refl,
    )

pub returns : goal.returns
returns c =
    let i = c.args.instance.now in
    let one : c.args.i ≡ c.args.i - 1 + 1 = omega (arith, c.requires.before.0) in
    let two : c.args.j ≡ c.args.j - 1 + 1 = omega (arith, c.requires.after.0) in
    let wide : length c.needs-before.result.now ≡ length (problem_of i).capacities = c.needs-before.ensures.amounts.0 ∙ sym (ap length (capacities-problem i)) in (
      λ no. absurd (both_ways false refl no),
      λ shared.
          let k = shared.0 in
          let first = need-problem i (c.args.i - 1) c.args.i c.needs-before.result.now one c.needs-before.ensures.row k in
          let second = need-problem i (c.args.j - 1) c.args.j c.needs-after.result.now two c.needs-after.ensures.row k in
          absurd (c.loop-k.invariant k (omega (arith, shared.1, wide, c.loop-k-test.false)) (omega (arith, first, shared.2)) (omega (arith, second, shared.3))),
    )
