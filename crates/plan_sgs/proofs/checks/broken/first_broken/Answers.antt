use Rattle.std.proofs.Common.{ℕ, ◌≡◌, ◌+◌, ◌-◌, subst, ap, arith}
use Rattle.plan_net.specs.Network.{Net, IsArc, IsLeast, count_of}
use Rattle.plan_net.specs.Limits.{IsSound}
use Rattle.plan_sgs.specs.Instances.{problem_of}
use Rattle.plan_sgs.specs.Verdicts.{IsFirstBroken}
use Rattle.plan_sgs.specs.Checks.{IsTooSoon}
use Rattle.plan_sgs.proofs.BrokenLemmas.{kept_arcs, broken_first}
use Rattle.plan_sgs.proofs.checks.broken.first_broken.Goals as goal

pub returns-in-Some : goal.returns-in-Some
returns-in-Some c =
    let i = c.args.instance.now in
    let s = c.args.starts.now in
    let n = c.loop-k.k in
    let j = c.in-Some.j in
    let sound : IsSound i.project.network = c.network-network.ensures.instance.project.network in
    let least = subst (λ (net : Net). IsLeast (λ k. IsArc net (n + 1) k × IsTooSoon net s (n + 1) k) j) c.network-network.ensures.network c.in-Some.ensures.some in
    let first = broken_first i s n j sound c.loop-k.invariant least in
    let same : n ≡ n + 1 - 1 = omega arith in
    (omega arith, first.0, subst (λ (x : ℕ). IsFirstBroken (problem_of i) s x (j - 1)) same first.1)

pub returns : goal.returns
returns c =
    let i = c.args.instance.now in
    let sound : IsSound i.project.network = c.network-network.ensures.instance.project.network in
    let counted = ap count_of c.network-network.ensures.network in
    kept_arcs i c.args.starts.now sound (λ h below. c.loop-k.invariant h (omega (arith, below, counted, c.len-k-end.ensures.count, c.loop-k-test.false)))
