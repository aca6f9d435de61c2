use Rattle.std.proofs.Common.{ℕ, ◌≡◌, ◌+◌, ◌≤◌, ◌<◌, ◌⊎◌, inl, inr, Vec, length, get_or, refl, sym, ◌∙◌, ap, subst, arith}
use Rattle.std.specs.Global.{Global}
use Rattle.plan_net.specs.Network.{Net, count_of, duration_of}
use Rattle.plan_sgs.specs.Problem.{count, duration}
use Rattle.plan_sgs.specs.Instances.{problem_of}
use Rattle.plan_sgs.proofs.InstanceLemmas.{count-problem, capacities-problem, duration-problem, need-problem}
use Rattle.plan_sgs.proofs.StartLemmas.{AreSums, sums_with, sums_without, sums_whole}
use Rattle.plan_sgs.proofs.SumLemmas.{amounts_small, sums_none}
use Rattle.plan_sgs.proofs.checks.overloads.needs_at.Goals as goal
use Rattle.plan_sgs.proofs.checks.overloads.needs_at.Goals.{then-starts-k+then-t-starts, else-starts-k, else-starts-k-via-then-starts-k+else-t-starts, else-starts-k-via-else-starts-k}

pub loop-k-init : goal.loop-k-init
loop-k-init c =
    let i = c.args.instance.now in
    sums_none (problem_of i) c.args.starts.now c.args.t (length c.caps.result.now) c.in_ok-sums.sums.items
    (c.in_ok-sums.ensures.items_if_clones_equal (λ y e. e))
    (ap length c.caps.ensures ∙ sym (ap length (capacities-problem i)))

pub add_needs-requires-clause-wide : goal.add_needs-requires-clause-wide
add_needs-requires-clause-wide c =
    let i = c.args.instance.now in
    c.loop-k.invariant.wide ∙ ap length (capacities-problem i) ∙ sym c.needs.ensures.amounts.0

pub loop-k-preserved : goal.loop-k-preserved
loop-k-preserved c =
    let i = c.args.instance.now in
    let p = problem_of i in
    let s = c.args.starts.now in
    let t = c.args.t in
    let k = c.loop-k.k in
    let lasts : duration p k ≡ duration_of c.network-network.result.now (k + 1) =
    duration-problem i k (k + 1) refl ∙ sym (ap
    (λ (net : Net). duration_of net (k + 1)) c.network-network.ensures.network) in
    elim c.if-starts-k.branch [
      | then-starts-k+then-t-starts w ↦
          subst (λ (v : Vec ℕ Global). AreSums p s t (k + 1) v.items) (sym w.sums-is)
          (sums_with p s t k c.loop-k.sums.items w.needs.result.now w.add_needs.new.sums.items
          c.loop-k.invariant w.if-starts-k.true
          (omega (arith, w.if-t-starts.true, w.duration.ensures.value, lasts))
          (need-problem i k (k + 1) w.needs.result.now refl w.needs.ensures.row) (amounts_small w.needs.result.now w.needs.ensures.amounts.1)
          (w.add_needs.ensures.wide ∙ w.needs.ensures.amounts.0 ∙ sym (ap length (capacities-problem i)) ∙ sym c.loop-k.invariant.wide) w.add_needs.ensures.each)
      | else-starts-k w ↦
          let outside : (t < get_or s k 0) ⊎ (get_or s k 0 + duration p k ≤ t) = elim w.else-starts-k.branch [
            | else-starts-k-via-then-starts-k+else-t-starts u ↦ inr (omega (arith, u.if-t-starts.false, u.duration.ensures.value, lasts))
            | else-starts-k-via-else-starts-k u ↦ inl u.if-starts-k.false
          ] in
          subst (λ (v : Vec ℕ Global). AreSums p s t (k + 1) v.items) (sym w.sums-is) (sums_without p s t k c.loop-k.sums.items c.loop-k.invariant outside)
    ]

pub returns : goal.returns
returns c =
    let i = c.args.instance.now in
    let counted = ap count_of c.network-network.ensures.network in
    let all : c.loop-k.k ≡ count (problem_of i) = omega (arith, c.loop-k.auto.k-end, c.loop-k-test.false, c.len-k-end.ensures.count, counted, count-problem i) in
    sums_whole (problem_of i) c.args.starts.now c.args.t c.loop-k.k c.loop-k.sums.items (c.requires.whole ∙ sym (count-problem i)) all c.loop-k.invariant
