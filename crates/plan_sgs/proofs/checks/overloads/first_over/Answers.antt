use Rattle.std.proofs.Common.{ℕ, ◌≡◌, ◌+◌, List, Option, length, get_or, sym, ◌∙◌, ap, subst, arith}
use Rattle.std.proofs.lemmas.Bool.{both_ways}
use Rattle.plan_net.specs.Network.{count_of}
use Rattle.plan_sgs.specs.Problem.{count}
use Rattle.plan_sgs.specs.Instances.{problem_of}
use Rattle.plan_sgs.specs.Checks.{IsOverAmong, AreNeedsAt}
use Rattle.plan_sgs.proofs.InstanceLemmas.{count-problem, capacities-problem}
use Rattle.plan_sgs.proofs.SumLemmas.{over_above, over_first, over_none}
use Rattle.plan_sgs.proofs.Findings.{over_among_none, over_among_later, over_among_here, over_answer}
use Rattle.plan_sgs.proofs.checks.overloads.first_over.Goals as goal
use Rattle.plan_sgs.proofs.checks.overloads.first_over.Goals.{then-is_before+in_ok-needs, in-Some, in_default, else-is_before}

pub first_above-requires : goal.first_above-requires
first_above-requires c =
    let i = c.args.instance.now in
    ap length c.deref.ensures.value ∙ c.in_ok-needs.ensures.whole ∙ ap length (capacities-problem i) ∙ sym (ap length c.caps.ensures)

pub loop-i-preserved : goal.loop-i-preserved
loop-i-preserved c =
    let i = c.args.instance.now in
    let p = problem_of i in
    let s = c.args.starts.now in
    let n = c.loop-i.i in
    elim c.if-is_before.branch [
      | then-is_before+in_ok-needs w ↦
          let are : AreNeedsAt p s (get_or s n 0) w.deref.result.now = subst (λ (xs : List ℕ). AreNeedsAt p s (get_or s n 0) xs) (sym w.deref.ensures.value) w.in_ok-needs.ensures in
          let same : w.caps.result.now ≡ p.capacities = w.caps.ensures ∙ sym (capacities-problem i) in
          elim w.match-first_above.branch [
            | in-Some v ↦
                subst (λ (o : Option (ℕ × ℕ)). IsOverAmong p s (n + 1) o) (sym (w.least-is ∙ v.least-is))
                (over_among_here p s n (v.in-Some.k + 1) c.loop-i.least c.loop-i.invariant (c.is_before.ensures.0 w.if-is_before.true) (omega arith)
                (over_above p s (get_or s n 0) w.deref.result.now w.caps.result.now v.in-Some.k are same v.in-Some.ensures.some)
                (over_first p s (get_or s n 0) w.deref.result.now w.caps.result.now v.in-Some.k are same v.in-Some.ensures.some))
            | in_default v ↦
                subst (λ (o : Option (ℕ × ℕ)). IsOverAmong p s (n + 1) o) (sym (w.least-is ∙ v.least-is))
                (over_among_none p s n c.loop-i.least c.loop-i.invariant (over_none p s (get_or s n 0) w.deref.result.now w.caps.result.now are same v.in_default.ensures.none))
          ]
      | else-is_before w ↦
          subst (λ (o : Option (ℕ × ℕ)). IsOverAmong p s (n + 1) o) (sym w.least-is)
          (over_among_later p s n c.loop-i.least c.loop-i.invariant (λ before. both_ways c.is_before.result w.if-is_before.false (c.is_before.ensures.1 before)))
    ]

pub returns : goal.returns
returns c =
    let i = c.args.instance.now in
    let counted = ap count_of c.network.ensures.network in
    let all : c.loop-i.i ≡ count (problem_of i) = omega (arith, c.loop-i.auto.i-end, c.loop-i-test.false, c.len-i-end.ensures.count, counted, count-problem i) in
    over_answer (problem_of i) c.args.starts.now c.loop-i.least (c.requires.whole ∙ sym (count-problem i)) c.requires.arcs
    (subst (λ (n : ℕ). IsOverAmong (problem_of i) c.args.starts.now n c.loop-i.least) all c.loop-i.invariant)
