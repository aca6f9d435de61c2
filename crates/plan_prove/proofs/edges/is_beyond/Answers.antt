use Rattle.std.proofs.Common.{get_or, ap, arith}
use Rattle.plan_prove.proofs.CliqueLemmas.{fill_behind, fill_ahead, beyond_from_start, beyond_from_finish}
use Rattle.plan_prove.proofs.edges.is_beyond.Goals as goal

pub returns-in-Start : goal.returns-in-Start
returns-in-Start c = λ yes.
    let g = c.args.graph.now in
    let others = c.args.others in
    beyond_from_start g c.args.limit c.args.state.now c.args.clique.now c.args.end others c.in-Start.is
    (
    fill_behind g c.args.limit c.min-start.result c.args.state.now others c.args.clique.now c.requires.clique c.requires.there
    (omega (arith, c.min-start.ensures))
    (omega (arith, c.min-start.ensures, c.at.ensures.value, ap (λ xs. get_or xs others.but 0) c.deref.ensures.value))
    (c.fill.ensures yes)
    )

pub returns-in-Finish : goal.returns-in-Finish
returns-in-Finish c = λ yes.
    let g = c.args.graph.now in
    let others = c.args.others in
    beyond_from_finish g c.args.limit c.args.state.now c.args.clique.now c.args.end others c.in-Finish.is
    (
    fill_ahead g c.args.limit c.min-rest.result c.args.state.now others c.args.clique.now c.requires.clique c.requires.there
    (omega (arith, c.min-rest.ensures))
    (omega (arith, c.min-rest.ensures, c.at-in-Finish.ensures.value, ap (λ xs. get_or xs others.but 0) c.deref-in-Finish.ensures.value))
    (c.fill-in-Finish.ensures yes)
    )
