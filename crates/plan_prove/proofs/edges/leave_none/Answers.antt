use Rattle.std.proofs.Common.{get_or, ap, arith}
use Rattle.plan_prove.specs.declared.edges.Others.{Others}
use Rattle.plan_prove.proofs.CliqueLemmas.{fill_refutes}
use Rattle.plan_prove.proofs.edges.leave_none.Goals as goal

pub returns : goal.returns
returns c = λ yes.
    let but = c.in-Some.but in
    let others : Others = record { head = c.args.hint.near; tail = c.args.hint.far; but = c.in-Some.but } in
    fill_refutes c.args.graph.now c.args.limit c.min-start.result c.min-rest.result c.args.state.now others c.args.clique.now c.requires c.in-Some.ensures
    (omega (arith, c.min-start.ensures))
    (omega (arith, c.min-start.ensures, c.at.ensures.value, ap (λ xs. get_or xs but 0) c.deref.ensures.value))
    (omega (arith, c.min-rest.ensures))
    (omega (arith, c.min-rest.ensures, c.at-2.ensures.value, ap (λ xs. get_or xs but 0) c.deref-2.ensures.value))
    (c.fill.ensures yes)
