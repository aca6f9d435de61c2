-- One tail more at each turn.
use Rattle.std.proofs.Common.{ℕ, suc, ◌≡◌, ◌∙◌, ap, arith}
use Rattle.plan_net.specs.Network.{count_of}
use Rattle.plan_sgs.specs.Problem.{greatest_below}
use Rattle.plan_sgs.specs.PathTails.{tail_of, longest_of}
use Rattle.plan_sgs.proofs.ProjectTreeLemmas.{tail_read, greatest_next}
use Rattle.plan_sgs.proofs.project_tree.bound.longest_path.Goals as goal

pub loop-i-preserved : goal.loop-i-preserved
loop-i-preserved c =
    let net = c.args.instance.now.project.network in
    let size : c.len-i-end.result ≡ count_of c.args.instance.now.project.network = c.len-i-end.ensures.count ∙ ap count_of c.network.ensures.network in
    let read = tail_read net c.args.tails.now c.loop-i.i c.network.ensures.instance.project.network c.requires (omega (arith, size, c.loop-i-test.true)) in
    let kept : c.loop-i.longest ≡ greatest_below c.loop-i.i (λ h. tail_of c.args.instance.now.project.network (suc h)) = c.loop-i.invariant in
    omega (arith, read, kept, c.max-longest.ensures, greatest_next c.loop-i.i (λ h. tail_of net (suc h)))

pub returns : goal.returns
unfolding longest_of
returns c =
    let net = c.args.instance.now.project.network in
    let size : c.len-i-end.result ≡ count_of c.args.instance.now.project.network = c.len-i-end.ensures.count ∙ ap count_of c.network.ensures.network in
    let all : c.loop-i.i ≡ count_of c.args.instance.now.project.network = omega (arith, size, c.loop-i-test.false, c.loop-i.auto.i-end) in
    c.loop-i.invariant ∙ ap (λ (n : ℕ). greatest_below n (λ h. tail_of c.args.instance.now.project.network (suc h))) all
