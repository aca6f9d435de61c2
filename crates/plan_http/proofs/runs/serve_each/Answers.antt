use Rattle.std.proofs.Common.{◌≡◌, ◌<◌, [], length, map, get_or, sym, ◌∙◌, arith, vec_items}
use Rattle.std.proofs.lemmas.List.{length-map}
use Rattle.std.proofs.lemmas.Result.{MatchResult-from_err}
use Rattle.plan_http.proofs.RunLemmas.{item_at, more, stopped}
use Rattle.plan_http.proofs.runs.serve_each.Goals as goal

pub loop-conn-preserved : goal.loop-conn-preserved
loop-conn-preserved g c =
    let conns = map vec_items c.args.conns.now in
    let size : length conns ≡ length c.args.conns.now = length-map c.args.conns.now vec_items in
    let below : c.loop-conn.conn-index < length conns = omega (arith, c.loop-conn-test.true) in
    let item : get_or conns c.loop-conn.conn-index [] ≡ c.deref.result.now =
    item_at vec_items c.args.conns.now c.loop-conn.conn-index c.conn-item.result c.loop-conn-test.true c.conn-item.is ∙ sym c.deref.ensures.value in
    more g.B.Book.shelf c.args.office.now c.loop-conn.office c.serve_next.new.office conns c.loop-conn.conn-index c.deref.result.now
    (map vec_items c.loop-conn.out.items) (map vec_items c.serve_next.new.out.items) (map vec_items c.args.out.now.items) below item c.loop-conn.invariant c.in_ok-serve_next.ensures

pub returns-in_err-serve_next-clause-err : goal.returns-in_err-serve_next-clause-err
returns-in_err-serve_next-clause-err g c =
    let conns = map vec_items c.args.conns.now in
    let size : length conns ≡ length c.args.conns.now = length-map c.args.conns.now vec_items in
    let below : c.loop-conn.conn-index < length conns = omega (arith, c.loop-conn-test.true) in
    let item : get_or conns c.loop-conn.conn-index [] ≡ c.deref.result.now =
    item_at vec_items c.args.conns.now c.loop-conn.conn-index c.conn-item.result c.loop-conn-test.true c.conn-item.is ∙ sym c.deref.ensures.value in
    let rest =
    stopped g.B.Book.shelf c.args.office.now c.loop-conn.office c.serve_next.new.office conns c.loop-conn.conn-index c.deref.result.now
    (map vec_items c.loop-conn.out.items) (map vec_items c.serve_next.new.out.items) (map vec_items c.args.out.now.items) below item c.loop-conn.invariant c.in_err-serve_next.ensures in
    MatchResult-from_err c.from_residual.result _ _ c.from_residual.ensures.0 (λ fault. rest)
