use Rattle.std.proofs.Common.{sym, subst}
use Rattle.std.specs.List.{All}
use Rattle.std.proofs.lemmas.List.Elements.{All-push}
use Rattle.plan_prove.specs.Graphs.{IsCliqueOf}
use Rattle.plan_prove.proofs.graph.cliques.Goals as goal

pub loop-machine-preserved : goal.loop-machine-preserved
loop-machine-preserved c =
    subst (λ vs. All (IsCliqueOf c.args.shop.now) vs) (sym c.in_ok-push.ensures.items)
    (All-push (IsCliqueOf c.args.shop.now) c.loop-machine.cliques.items c.in_ok-clique.field-0 c.loop-machine.invariant (c.loop-machine.machine, c.in_ok-clique.ensures))
