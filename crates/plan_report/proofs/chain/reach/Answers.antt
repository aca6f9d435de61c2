use Rattle.std.proofs.Common.{ℕ, Bool, ◌≡◌, ◌+◌, ◌-◌, ◌<◌, List, [], ◌∷◌, ◌++◌, Vec, set, true, length, sym, ◌∙◌, ap, arith}
use Rattle.std.specs.Global.{Global}
use Rattle.std.proofs.lemmas.Bool.{both_ways}
use Rattle.plan_net.specs.Network.{count_of}
use Rattle.plan_sgs.specs.Problem.{count}
use Rattle.plan_sgs.specs.Instances.{problem_of}
use Rattle.plan_sgs.proofs.InstanceLemmas.{count-problem}
use Rattle.plan_report.specs.Chain.{index_or, target_at}
use Rattle.plan_report.proofs.ReachLemmas.{next_same, step_by_push, step_by_rest, target_inside}
use Rattle.plan_report.proofs.chain.reach.Goals as goal
use Rattle.plan_report.proofs.chain.reach.Goals.{then-is_next+in_ok-push_reached, else-is_next}

pub is_next-requires-clause-marks : goal.is_next-requires-clause-marks
is_next-requires-clause-marks c = ap length c.deref-in-loop-k.ensures.value ∙ c.loop-k.invariant.search.whole ∙ count-problem c.args.instance.now

pub is_next-requires-clause-target : goal.is_next-requires-clause-target
is_next-requires-clause-target c =
    let i = c.args.instance.now in
    let target = c.target_of-target.ensures ∙ ap (λ (xs : List ℕ). target_at xs c.args.at) c.deref.ensures.value in
    target_inside (problem_of i) c.args.starts.now c.args.slacks.now c.args.marks.now.items c.args.reached.now.items c.args.nexts.now.items c.args.at
    c.target_of-target.result (count_of i.project.network) (count-problem i) c.requires.search c.requires.at target

pub push_reached-requires : goal.push_reached-requires
push_reached-requires c =
    let i = c.args.instance.now in
    let counted = ap count_of c.network.ensures.network in
    record {
      activity = omega arith;
      marks = omega (arith, c.loop-k.invariant.search.whole, count-problem i, counted, c.len-k-end.ensures.count, c.loop-k-test.true);
    }

pub loop-k-preserved : goal.loop-k-preserved
loop-k-preserved c =
    let i = c.args.instance.now in
    let p = problem_of i in
    let s = c.args.starts.now in
    let slacks = c.args.slacks.now in
    let at = c.args.at in
    let k = c.loop-k.k in
    let marks0 = c.args.marks.now.items in
    let reached0 = c.args.reached.now.items in
    let marks = c.loop-k.marks.items in
    let reached = c.loop-k.reached.items in
    let nexts = c.loop-k.nexts.items in
    let counted = ap count_of c.network.ensures.network in
    let inside : k < count p = omega (arith, count-problem i, counted, c.len-k-end.ensures.count, c.loop-k-test.true) in
    let marks_are : c.deref-in-loop-k.result.now ≡ marks = c.deref-in-loop-k.ensures.value in
    let target = c.target_of-target.ensures ∙ ap (λ (xs : List ℕ). target_at xs at) c.deref.ensures.value in
    let place : k + 1 - 1 ≡ k = omega arith in
    elim c.if-is_next.branch [
      | then-is_next+in_ok-push_reached w ↦
          let found = next_same p s slacks c.deref-in-loop-k.result.now marks c.target_of-target.result (target_at reached0 at)
          (k + 1 - 1) k marks_are target place (c.is_next.ensures.0 w.if-is_next.true) in
          step_by_push p s slacks at marks0 reached0 marks reached nexts k c.if-is_next.marks.items c.if-is_next.reached.items c.if-is_next.nexts.items c.requires.at inside c.loop-k.invariant found
          (ap (λ (v : Vec Bool Global). v.items) w.marks-is ∙ w.in_ok-push_reached.ensures.marks ∙ ap (λ (x : ℕ). set marks x true) place)
          (ap (λ (v : Vec ℕ Global). v.items) w.reached-is ∙ w.in_ok-push_reached.ensures.reached)
          (ap (λ (v : Vec ℕ Global). v.items) w.nexts-is ∙ w.in_ok-push_reached.ensures.nexts ∙ ap (λ (x : ℕ). nexts ++ x ∷ [])
          (w.index_or-next.ensures ∙ ap (λ (x : ℕ). index_or at x) (w.len.ensures ∙ c.loop-k.reached.ok.0)))
      | else-is_next w ↦
          step_by_rest p s slacks at marks0 reached0 marks reached nexts k c.if-is_next.marks.items c.if-is_next.reached.items c.if-is_next.nexts.items c.loop-k.invariant
          (λ next. both_ways c.is_next.result w.if-is_next.false (c.is_next.ensures.1
          (next_same p s slacks marks c.deref-in-loop-k.result.now (target_at reached0 at) c.target_of-target.result k (k + 1 - 1) (sym marks_are) (sym target) (sym place) next)))
          (ap (λ (v : Vec Bool Global). v.items) w.marks-is) (ap (λ (v : Vec ℕ Global). v.items) w.reached-is) (ap (λ (v : Vec ℕ Global). v.items) w.nexts-is)
    ]

pub returns-clause-all : goal.returns-clause-all
returns-clause-all c =
    let i = c.args.instance.now in
    let counted = ap count_of c.network.ensures.network in
    λ j inside free leads. c.loop-k.invariant.done j (omega (arith, inside, count-problem i, counted, c.len-k-end.ensures.count, c.loop-k-test.false)) free leads
