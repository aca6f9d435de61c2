use Rattle.std.proofs.Common.{map, vec_items}
use Rattle.plan_http.specs.Headline.{ApartRunsAreAlike}
use Rattle.plan_http.proofs.HeadlineLemmas.{apart_runs_are_alike}
use Rattle.plan_http.proofs.headline.serve_two_worlds.Goals as goal

pub returns-clause-headline : goal.returns-clause-headline
unfolding ApartRunsAreAlike
returns-clause-headline g c honest also stands standing desk agree =
    apart_runs_are_alike g.A.Book.shelf g.B.Book.shelf c.args.first.now c.make_run.new.office c.args.second.now c.make_run-2.new.office
    (map vec_items c.args.conns.now) (map vec_items c.make_run.result.responses.items) (map vec_items c.args.others.now) (map vec_items c.make_run-2.result.responses.items) desk
    (c.make_run.ensures.apart honest desk) (c.make_run-2.ensures.apart also desk)
    (g.met.A.Book.whole c.args.first.now stands) (g.met.B.Book.whole c.args.second.now standing) agree
