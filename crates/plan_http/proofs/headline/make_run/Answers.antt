use Rattle.std.proofs.Common.{length, map, drop, vec_items, ap, subst}
use Rattle.plan_http.specs.Isolated.{IsApart}
use Rattle.plan_http.proofs.HeadlineLemmas.{run_of, as_many, unmapped}
use Rattle.plan_http.proofs.headline.make_run.Goals as goal

pub returns-clause-served : goal.returns-clause-served
returns-clause-served g c =
    run_of g.B.Book.shelf c.args.office.now c.serve_run-end.new.office (map vec_items c.args.conns.now) (map vec_items c.new-responses.result.items)
    (map vec_items c.serve_run-end.new.out.items) c.serve_run-end.result (ap (map vec_items) c.new-responses.ensures.items) c.serve_run-end.ensures.ok c.serve_run-end.ensures.err

pub returns-clause-whole : goal.returns-clause-whole
returns-clause-whole g c =
    let run = returns-clause-served g c in
    unmapped vec_items c.serve_run-end.new.out.items c.args.conns.now c.serve_run-end.result
    (as_many g.B.Book.shelf c.args.office.now c.serve_run-end.new.office (map vec_items c.args.conns.now) (map vec_items c.serve_run-end.new.out.items) c.serve_run-end.result run)

pub returns-clause-apart : goal.returns-clause-apart
returns-clause-apart g c honest desk =
    subst (λ list. IsApart g.B.Book.shelf c.args.office.now c.serve_run-end.new.office (map vec_items c.args.conns.now) (drop (length list) (map vec_items c.serve_run-end.new.out.items)) desk)
    c.new-responses.ensures.items (c.serve_run-end.ensures.apart honest desk)
