use Rattle.std.proofs.Common.{ℕ, ◌+◌, ◌-◌, ◌≤◌, ◌<◌, length, get_or, ap, subst, sym, ◌∙◌, below_more, arith}
use Rattle.std.proofs.lemmas.List.Elements.{Contains-get_or}
use Rattle.plan_net.specs.Network.{Net, IsArc, lag_of}
use Rattle.plan_net.proofs.RisingLemmas.{each_of_rising}
use Rattle.plan_sgs.specs.Problem.{count, duration}
use Rattle.plan_sgs.specs.Instances.{problem_of}
use Rattle.plan_sgs.proofs.InstanceLemmas.{count-problem}
use Rattle.plan_sgs.proofs.TotalLemmas.{greatest_above}
use Rattle.plan_report.proofs.DueLemmas.{arc_kept, arc_lets, lets_from_arcs}
use Rattle.plan_report.proofs.slack.due_of.Goals.{After-succs-h-items}
use Rattle.plan_report.proofs.slack.due_of.Goals as goal

pub loop-h-init : goal.loop-h-init
loop-h-init c =
    let i = c.args.instance.now in
    let p = problem_of i in
    let s = c.args.starts.now in
    let at = c.args.j - 1 in
    let inside : at < count p = omega (arith, c.requires.activity.0, c.requires.activity.1, count-problem i) in
    record {
      ended = omega (arith, c.requires.makespan, greatest_above (count p) (λ h. get_or s h 0 + duration p h) at inside);
      no_longer = omega (arith, c.requires.makespan);
      arcs = λ m below. absurd (omega (arith, below));
      latest = λ end within lets. omega (arith, within, c.requires.makespan);
    }

-- the arc to the successor
arc_to : (c : After-succs-h-items) (n : ℕ) → n < length c.succs-h-items.result.now → IsArc c.args.instance.now.project.network c.args.j (get_or c.succs-h-items.result.now n 0)
arc_to c n within =
    let h = get_or c.succs-h-items.result.now n 0 in
    subst (λ (net : Net). IsArc net c.args.j h) c.network-network.ensures.network ((c.succs-h-items.ensures.exact.exact h).0 (Contains-get_or c.succs-h-items.result.now n 0 within))

pub lag_between-requires : goal.lag_between-requires
lag_between-requires c =
    let items = c.succs-h-items.result.now in
    (c.succs-h-items.ensures.exact.exact (get_or items c.loop-h.h-index 0)).0 (Contains-get_or items c.loop-h.h-index 0 c.loop-h-test.true)

pub overflow_sub-starts : goal.overflow_sub-starts
overflow_sub-starts c =
    let i = c.args.instance.now in
    let h = get_or c.succs-h-items.result.now c.loop-h.h-index 0 in
    let arc = arc_to (goal.at.overflow_sub-starts c).After-succs-h-items c.loop-h.h-index c.loop-h-test.true in
    let lag = c.lag_between.ensures.value ∙ ap (λ (net : Net). lag_of net c.args.j h) c.network-network.ensures.network in
    omega (arith, lag, arc_kept i c.args.starts.now c.args.j h c.requires.feasible.arcs arc)

pub loop-h-preserved : goal.loop-h-preserved
loop-h-preserved c =
    let i = c.args.instance.now in
    let s = c.args.starts.now in
    let j = c.args.j in
    let items = c.succs-h-items.result.now in
    let n = c.loop-h.h-index in
    let h = get_or items n 0 in
    let is = c.network-network.ensures.network in
    let arc = arc_to (goal.at.loop-h-preserved c).After-succs-h-items n c.loop-h-test.true in
    let lag = c.lag_between.ensures.value ∙ ap (λ (net : Net). lag_of net j h) is in
    let kept = arc_kept i s j h c.requires.feasible.arcs arc in
    record {
      ended = omega (arith, kept, lag, c.min-due.ensures, c.loop-h.invariant.ended);
      no_longer = omega (arith, c.min-due.ensures, c.loop-h.invariant.no_longer);
      arcs = λ m below. below_more (λ (m : ℕ). c.min-due.result + lag_of i.project.network j (get_or items m 0) ≤ get_or s (get_or items m 0 - 1) 0) n
          (λ m low. omega (arith, c.loop-h.invariant.arcs m low, c.min-due.ensures)) (omega (arith, kept, lag, c.min-due.ensures)) m below;
      latest = λ end within lets. omega (
        arith,
        c.loop-h.invariant.latest end within lets,
        arc_lets i s j h end c.network-network.ensures.instance.project.network arc lets,
        lag,
        c.min-due.ensures,
      );
    }

pub returns : goal.returns
returns c =
    let i = c.args.instance.now in
    let s = c.args.starts.now in
    let j = c.args.j in
    let items = c.succs-h-items.result.now in
    let is = c.network-network.ensures.network in
    let each : (h : ℕ) → IsArc c.network-network.result.now j h → c.loop-h.due + lag_of i.project.network j h ≤ get_or s (h - 1) 0 =
    each_of_rising (IsArc c.network-network.result.now j) (λ h. c.loop-h.due + lag_of i.project.network j h ≤ get_or s (h - 1) 0) items c.succs-h-items.ensures.exact
    (λ k within. c.loop-h.invariant.arcs k (omega (arith, within, c.loop-h-test.false))) in
    record {
      ended = c.loop-h.invariant.ended;
      no_longer = c.loop-h.invariant.no_longer;
      arcs = lets_from_arcs i s j c.loop-h.due c.network-network.ensures.instance.project.network c.requires.activity
          (λ h arc. each h (subst (λ (net : Net). IsArc net j h) (sym is) arc));
      latest = c.loop-h.invariant.latest;
    }
