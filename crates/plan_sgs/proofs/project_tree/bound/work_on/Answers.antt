-- One activity more at each turn.
use Rattle.std.proofs.Common.{ℕ, ◌≡◌, ◌+◌, ◌*◌, ◌∙◌, ap, arith}
use Rattle.plan_net.specs.Network.{Net, count_of, duration_of}
use Rattle.plan_sgs.specs.Problem.{count, duration, need, total}
use Rattle.plan_sgs.specs.Instances.{problem_of}
use Rattle.plan_sgs.proofs.InstanceLemmas.{count-problem}
use Rattle.plan_sgs.proofs.ProjectTreeLemmas.{work_more, work_small, total_push}
use Rattle.plan_sgs.proofs.project_tree.bound.work_on.Goals as goal

pub overflow_add-work : goal.overflow_add-work
overflow_add-work c =
    let few = c.len-i-end.ensures.sound.limits.size.1 in
    let size = c.len-i-end.ensures.count in
    let small = work_small _ c.args.k c.duration.result c.needs.result.now c.duration.ensures.limit c.needs.ensures.amounts in
    omega (arith, small, few, size, c.loop-i-test.true, c.loop-i.invariant.limit)

pub loop-i-preserved : goal.loop-i-preserved
loop-i-preserved c =
    let i = c.args.instance.now in
    let size : c.len-i-end.result ≡ count_of c.args.instance.now.project.network = c.len-i-end.ensures.count ∙ ap count_of c.network-network.ensures.network in
    let lasts : c.duration.result ≡ duration_of c.args.instance.now.project.network (c.loop-i.i + 1) =
    c.duration.ensures.value ∙ ap (λ (n : Net). duration_of n (c.loop-i.i + 1)) c.network-network.ensures.network in
    let here = work_more i c.args.k c.loop-i.i c.duration.result c.needs.result.now c.network-network.ensures.instance (omega (arith, c.loop-i-test.true, size)) lasts c.needs.ensures.row in
    let small = work_small _ c.args.k c.duration.result c.needs.result.now c.duration.ensures.limit c.needs.ensures.amounts in
    record {
      value = omega (arith, here, c.loop-i.invariant.value, total_push c.loop-i.i (λ h. duration (problem_of i) h * need (problem_of i) h c.args.k));
      limit = omega (arith, small, c.loop-i.invariant.limit);
    }

pub returns : goal.returns
returns c =
    let size : c.len-i-end.result ≡ count_of c.args.instance.now.project.network = c.len-i-end.ensures.count ∙ ap count_of c.network-network.ensures.network in
    let all : c.loop-i.i ≡ count (problem_of c.args.instance.now) = omega (arith, size, count-problem c.args.instance.now, c.loop-i-test.false, c.loop-i.auto.i-end) in
    c.loop-i.invariant.value ∙ ap (λ (n : ℕ). total n (λ h. duration (problem_of c.args.instance.now) h * need (problem_of c.args.instance.now) h c.args.k)) all
