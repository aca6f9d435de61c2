use Rattle.plan_prove.proofs.CliqueLemmas.{clique_there}
use Rattle.plan_prove.proofs.StateLemmas.{none_after}
use Rattle.plan_prove.proofs.cliques.bound_machine.Goals as goal

pub leaves_none-requires : goal.leaves_none-requires
leaves_none-requires c = clique_there c.args.graph.now c.args.machine c.index-clique.result.now c.requires c.index-clique.ensures

pub raise_all-requires : goal.raise_all-requires
raise_all-requires c = clique_there c.args.graph.now c.args.machine c.index-clique.result.now c.requires c.index-clique.ensures

pub raise_all-requires-2 : goal.raise_all-requires-2
raise_all-requires-2 c = clique_there c.args.graph.now c.args.machine c.index-clique.result.now c.requires c.index-clique.ensures

pub returns-in_err-longer : goal.returns-in_err-longer
returns-in_err-longer c =
    none_after c.args.graph.now c.args.limit c.args.state.now c.raise_all.new.state c.raise_all-2.new.state c.raise_all-2.result c.from_residual-in_err-longer.result
    c.in_err-longer.was c.from_residual-in_err-longer.ensures c.in_ok-later.ensures c.raise_all-2.ensures
