-- One resource more at each turn.
use Rattle.std.proofs.Common.{ℕ, List, cond, nat_lt, ◌≡◌, ◌+◌, sym, ◌∙◌, ap, get_or, arith}
use Rattle.plan_sgs.specs.Problem.{greatest_below, capacity}
use Rattle.plan_sgs.specs.Instances.{problem_of}
use Rattle.plan_sgs.specs.ProjectWords.{busy_of, rounded_up}
use Rattle.plan_sgs.proofs.InstanceLemmas.{capacities-problem}
use Rattle.plan_sgs.proofs.ProjectTreeLemmas.{greatest_next}
use Rattle.plan_sgs.proofs.project_tree.bound.greatest_busy_time.Goals as goal

pub loop-k-preserved : goal.loop-k-preserved
loop-k-preserved c =
    let p = problem_of c.args.instance.now in
    let caps : get_or c.caps-caps.result.now c.loop-k.k 0 ≡ capacity (problem_of c.args.instance.now) c.loop-k.k =
    ap (λ (xs : List ℕ). get_or xs c.loop-k.k 0) c.caps-caps.ensures ∙ ap (λ (xs : List ℕ). get_or xs c.loop-k.k 0) (sym (capacities-problem c.args.instance.now)) in
    let busy : c.busy_time.result ≡ busy_of (problem_of c.args.instance.now) c.loop-k.k =
    c.busy_time.ensures ∙ ap (λ (x : ℕ). cond (nat_lt 0 x) (rounded_up c.work_on.result x) 0) caps
    ∙ ap (λ (x : ℕ). cond (nat_lt 0 (capacity (problem_of c.args.instance.now) c.loop-k.k)) (rounded_up x (capacity (problem_of c.args.instance.now) c.loop-k.k)) 0) c.work_on.ensures in
    let kept : c.loop-k.busiest ≡ greatest_below c.loop-k.k (busy_of (problem_of c.args.instance.now)) = c.loop-k.invariant in
    let more : c.max-busiest.result ≡ greatest_below (c.loop-k.k + 1) (busy_of (problem_of c.args.instance.now)) =
    omega (arith, busy, kept, c.max-busiest.ensures, greatest_next c.loop-k.k (busy_of p)) in
    more
