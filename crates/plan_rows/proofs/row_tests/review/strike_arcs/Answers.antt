use Rattle.std.proofs.Common.{◌≡◌, ◌&&◌, arith, not, subst}
use Rattle.plan_rows.specs.PlanReview.{holds_key, is_arc_key}
use Rattle.plan_rows.proofs.RowTestLemmas.{take_all}
use Rattle.plan_rows.proofs.ReviewLemmas.{arcs_step, none_struck}
use Rattle.plan_rows.proofs.row_tests.review.strike_arcs.Goals as goal

pub loop-arc-init : goal.loop-arc-init
loop-arc-init c = λ q. none_struck c.args.pending.now.keys q

pub loop-arc-preserved : goal.loop-arc-preserved
loop-arc-preserved c = λ q.
    arcs_step c.args.desk.now c.args.n c.args.arcs.now c.loop-arc.arc-index _ _ c.arc_key.result q c.args.pending.now.keys c.loop-arc.pending.keys c.remove.new.self.keys
    (omega arith) (omega arith) c.arc_key.ensures (c.loop-arc.invariant q) (c.remove.ensures.updates.0 q)

pub returns : goal.returns
returns c = λ q.
    subst (λ l. holds_key c.loop-arc.pending.keys q ≡
    (holds_key c.args.pending.now.keys q && not (is_arc_key c.args.desk.now c.args.n l q)))
    (take_all c.loop-arc.arc-index c.args.arcs.now (omega arith)) (c.loop-arc.invariant q)
