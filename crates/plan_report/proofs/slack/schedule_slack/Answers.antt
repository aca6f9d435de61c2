use Rattle.std.proofs.Common.{ℕ, ◌≡◌, ◌+◌, ◌-◌, List, [], ◌∷◌, ◌++◌, length, get_or, sym, ◌∙◌, ap, subst, below_more, arith}
use Rattle.std.proofs.lemmas.List.{length_push, get_or_append_left, get_or_push}
use Rattle.plan_net.specs.Network.{count_of}
use Rattle.plan_sgs.specs.Problem.{count}
use Rattle.plan_sgs.specs.Instances.{problem_of}
use Rattle.plan_sgs.proofs.InstanceLemmas.{count-problem}
use Rattle.plan_report.specs.Slack.{IsSlack}
use Rattle.plan_report.proofs.slack.schedule_slack.Goals as goal

pub loop-k-preserved : goal.loop-k-preserved
loop-k-preserved c =
    let p = problem_of c.args.instance.now in
    let s = c.args.starts.now in
    let n = c.loop-k.k in
    let list = c.loop-k.slacks.items in
    let value = c.slack_of.result in
    let pushed : c.push.new.self.items ≡ list ++ value ∷ [] = c.in_ok-push.ensures.items in
    let size : length list ≡ n = c.loop-k.invariant.whole in
    let place : n + 1 - 1 ≡ n = omega arith in
    let here : IsSlack p s n value = subst (λ (x : ℕ). IsSlack p s x value) place c.slack_of.ensures in
    record {
      whole = omega (arith, ap length pushed, length_push list value, size);
      each = λ h below. below_more (λ (h : ℕ). IsSlack p s h (get_or c.push.new.self.items h 0)) n
          (λ h low. subst (IsSlack p s h) (sym (ap (λ (xs : List ℕ). get_or xs h 0) pushed ∙ get_or_append_left list (value ∷ []) 0 h (omega (arith, low, size)))) (c.loop-k.invariant.each h low))
          (subst (IsSlack p s n) (sym (ap (λ (xs : List ℕ). get_or xs n 0) pushed ∙ get_or_push list value 0 n size)) here) h below;
    }

pub returns-clause-slacks : goal.returns-clause-slacks
returns-clause-slacks c =
    let i = c.args.instance.now in
    let counted = ap count_of c.network.ensures.network in
    let all : c.loop-k.k ≡ count (problem_of i) = omega (arith, c.loop-k.auto.k-end, c.loop-k-test.false, c.len-k-end.ensures.count, counted, count-problem i) in
    record {
      whole = omega (arith, c.loop-k.invariant.whole, all);
      each = λ h below. c.loop-k.invariant.each h (omega (arith, below, all));
    }
