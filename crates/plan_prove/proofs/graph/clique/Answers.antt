use Rattle.std.proofs.Common.{sym, ◌∙◌, ap}
use Rattle.plan_prove.proofs.GraphLemmas.{lasting_more, lasting_same}
use Rattle.plan_prove.proofs.graph.clique.Goals as goal
use Rattle.plan_prove.proofs.graph.clique.Goals.{then-lasts_on+in_ok-push, else-lasts_on}

pub loop-x-preserved : goal.loop-x-preserved
loop-x-preserved c = elim c.if-lasts_on.branch [
  | then-lasts_on+in_ok-push w ↦
      lasting_more c.args.shop.now c.args.machine c.loop-x.x c.loop-x.clique.items c.if-lasts_on.clique.items c.loop-x.invariant (sym c.lasts_on.ensures ∙ w.if-lasts_on.true)
      (ap (λ v. v.items) w.clique-is ∙ w.in_ok-push.ensures.items)
  | else-lasts_on w ↦
      lasting_same c.args.shop.now c.args.machine c.loop-x.x c.loop-x.clique.items c.if-lasts_on.clique.items c.loop-x.invariant (sym c.lasts_on.ensures ∙ w.if-lasts_on.false)
      (ap (λ v. v.items) w.clique-is)
]
