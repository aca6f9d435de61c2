use Rattle.std.proofs.Common.{◌≤◌, subst, arith}
use Rattle.std.specs.List.{sum_by}
use Rattle.plan_prove.specs.Graphs.{time_in}
use Rattle.plan_prove.specs.States.{others_of, GoesBeyond}
use Rattle.plan_prove.proofs.CliqueLemmas.{beyond_away}
use Rattle.plan_prove.proofs.edges.go_beyond.Goals as goal

pub raise_end-requires : goal.raise_end-requires
raise_end-requires c =
    let g = c.args.graph.now in
    let state = c.args.state.now in
    let clique = c.args.clique.now in
    beyond_away g c.args.limit c.args.end c.args.hint.near c.args.hint.far c.args.hint.from c.in-Some.but c.load-times.result c.saturating_add-value.result state clique c.requires
    (subst (λ o. GoesBeyond g c.args.limit state clique c.args.end o) c.others_from-others.ensures.value (c.is_beyond.ensures c.if-not-is_beyond.false))
    (omega arith)
    (subst (λ o. c.load-times.result ≤ sum_by (time_in g) (others_of state o clique.items)) c.others_from-last.ensures.value c.load-times.ensures)
    (omega arith) (omega (arith, c.saturating_add-value.ensures))
