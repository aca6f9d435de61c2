-- The start of the activity, if it is placed.
use Rattle.std.proofs.Common.{◌≡◌, ◌+◌, ◌-◌, ◌≤◌, ◌∙◌, ap, arith}
use Rattle.plan_net.specs.Network.{Net, duration_of}
use Rattle.plan_sgs.specs.Problem.{duration}
use Rattle.plan_sgs.specs.Instances.{problem_of}
use Rattle.plan_sgs.proofs.InstanceLemmas.{count-problem}
use Rattle.plan_sgs.proofs.PlacingLemmas.{end_of-placed}
use Rattle.plan_sgs.proofs.PlaceLemmas.{duration_place}
use Rattle.plan_sgs.proofs.placement.end_of.Goals as goal

pub bounds : goal.bounds
bounds c = omega (arith, c.requires.activity, c.requires.partial.size, count-problem c.args.instance.now)

pub returns-in-Some-clause-value : goal.returns-in-Some-clause-value
returns-in-Some-clause-value c =
    let lasts : c.duration.result ≡ duration (problem_of c.args.instance.now) (c.args.j - 1) =
    c.duration.ensures.value ∙ ap (λ (n : Net). duration_of n c.args.j) c.network.ensures.network ∙ duration_place c.args.instance.now c.args.j c.requires.activity in
    omega (arith, lasts, end_of-placed (problem_of c.args.instance.now) c.args.placed.now (c.args.j - 1) c.in-Some.start c.in-Some.is)

pub returns-in-Some-clause-limit : goal.returns-in-Some-clause-limit
returns-in-Some-clause-limit c =
    let lasts : c.duration.result ≡ duration (problem_of c.args.instance.now) (c.args.j - 1) =
    c.duration.ensures.value ∙ ap (λ (n : Net). duration_of n c.args.j) c.network.ensures.network ∙ duration_place c.args.instance.now c.args.j c.requires.activity in
    let limit : c.in-Some.start + duration (problem_of c.args.instance.now) (c.args.j - 1) ≤ 10010000 = c.requires.partial.ends (c.args.j - 1) c.in-Some.start c.in-Some.is in
    omega (arith, lasts, limit)
