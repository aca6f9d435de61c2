use Rattle.std.proofs.Common.{[], subst}
use Rattle.plan_summary.specs.Digests.{Takes, lines_at}
use Rattle.plan_summary.proofs.SummaryLemmas.{looks_as}
use Rattle.plan_summary.proofs.summary.digest_of.Goals as goal

pub returns : goal.returns
returns g c =
    looks_as g.B.Book.shelf _ _ c.args.book.now c.add_plans.new.book tt c.finalize.result c.in_ok-add_plans.ensures
    (λ w is.
    let plans = subst (λ keys. Takes c.add_desk_tables.new.hasher c.add_plans.new.hasher (lines_at w keys)) c.as_slice.ensures.value is in
    c.finalize.ensures _ (c.in_ok-add_plan_tables.ensures _ (plans _ (c.in_ok-add_desk_tables.ensures [] c.new-hasher.ensures))))
