use Rattle.std.proofs.Common.{length, map, sym, vec_items}
use Rattle.std.proofs.lemmas.List.{length-map}
use Rattle.plan_http.proofs.WholeRunLemmas.{outlasts, is_apart}
use Rattle.plan_http.proofs.runs.serve_run.Goals as goal

pub returns-clause-crash : goal.returns-clause-crash
returns-clause-crash g c =
    outlasts g.B.Book.shelf c.args.office.now c.serve_each.new.office (map vec_items c.args.conns.now) (map vec_items c.args.out.now.items)
    (map vec_items c.serve_each.new.out.items) (length c.args.out.now.items) c.serve_each.result (sym (length-map c.args.out.now.items vec_items))
    c.serve_each.ensures.ok c.serve_each.ensures.err

pub returns-clause-apart : goal.returns-clause-apart
returns-clause-apart g c =
    is_apart g.B.Book.shelf c.args.office.now c.serve_each.new.office (map vec_items c.args.conns.now) (map vec_items c.args.out.now.items)
    (map vec_items c.serve_each.new.out.items) (length c.args.out.now.items) c.serve_each.result (sym (length-map c.args.out.now.items vec_items))
    c.serve_each.ensures.ok c.serve_each.ensures.err
