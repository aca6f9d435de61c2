use Rattle.std.proofs.Common.{◌≡◌, ◌∙◌, ap, subst, map, vec_items, ◌++◌, IfOk}
use Rattle.std.specs.List.{flat_map}
use Rattle.plan_http.specs.Connections.{response_of}
use Rattle.plan_door.proofs.ReplayLemmas.{joined_all, joined_none}
use Rattle.plan_door.proofs.replay.responses.Goals as goal

pub returns-clause-ok : goal.returns-clause-ok
returns-clause-ok g c =
    let out = c.in-Ok.ensures.ok in
    joined_all g.B.Book.shelf c.args.office.now c.serve_run.new.office (map vec_items c.args.conns.now) vec_items vec_items c.serve_run.new.out.items out.0 c.concat.result out.1
    (out.2 ∙ ap (λ items. map vec_items items ++ map response_of out.0) c.new-out.ensures.items)
    (subst (λ xs. IfOk c.concat.result (λ all. all.items ≡ flat_map vec_items xs)) c.deref.ensures.value c.concat.ensures)

pub returns-clause-err : goal.returns-clause-err
returns-clause-err g c =
    let out = c.in-Ok.ensures.ok in
    joined_none g.B.Book.shelf c.args.office.now c.serve_run.new.office (map vec_items c.args.conns.now) out.0 c.concat.result out.1
