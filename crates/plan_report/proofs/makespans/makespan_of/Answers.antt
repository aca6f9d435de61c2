use Rattle.std.proofs.Common.{ℕ, ◌≡◌, ◌+◌, ◌<◌, get_or, length, refl, sym, ◌∙◌, ap, arith, rules}
use Rattle.plan_net.specs.Network.{Net, count_of, duration_of}
use Rattle.plan_sgs.specs.Problem.{greatest_below, count, duration}
use Rattle.plan_sgs.specs.Instances.{problem_of}
use Rattle.plan_sgs.proofs.InstanceLemmas.{count-problem, duration-problem}
use Rattle.plan_report.proofs.MakespanLemmas.{greatest_more}
use Rattle.plan_report.proofs.makespans.makespan_of.Goals as goal

pub loop-i-preserved : goal.loop-i-preserved
loop-i-preserved c =
    let lasts : c.duration.result ≡ duration (problem_of c.args.instance.now) c.loop-i.i =
    c.duration.ensures.value ∙ ap (λ (n : Net). duration_of n (c.loop-i.i + 1)) c.network-network.ensures.network ∙ sym (duration-problem c.args.instance.now c.loop-i.i (c.loop-i.i + 1) refl) in
    let more = greatest_more c.loop-i.i (λ h. get_or c.args.starts.now h 0 + duration (problem_of c.args.instance.now) h) in
    let low : c.loop-i.i < length c.args.starts.now = search rules in
    let early = c.requires.limit c.loop-i.i 0 low in
    record {
      greatest = omega (arith, lasts, c.max-latest.ensures, c.loop-i.invariant.greatest, more);
      ends = omega (arith, early, c.duration.ensures.limit, c.max-latest.ensures, c.loop-i.invariant.ends);
    }

pub returns-clause-value : goal.returns-clause-value
returns-clause-value c =
    let size = c.len-i-end.ensures.count ∙ ap count_of c.network-network.ensures.network in
    let all : c.loop-i.i ≡ count (problem_of c.args.instance.now) = omega (arith, size, count-problem c.args.instance.now) in
    c.loop-i.invariant.greatest ∙ ap (λ (n : ℕ). greatest_below n (λ h. get_or c.args.starts.now h 0 + duration (problem_of c.args.instance.now) h)) all
