use Rattle.std.proofs.Common.{subst}
use Rattle.plan_rows.specs.Views.{view}
use Rattle.plan_desk.specs.Lookup.{FindsPlan, HasCapacities}
use Rattle.plan_desk.proofs.DecidingLemmas.{found_more, bound_there}
use Rattle.plan_desk.proofs.lookup.find_bound.Goals as goal

pub returns : goal.returns
returns g c =
    found_more g.B.Book.shelf _ _ _ c.args.book.now c.find_plan.new.book c.find_capacities.new.book _ c.in_ok-places.places _ c.in_ok-found.ensures c.in_ok-places.ensures
    (λ w is has. bound_there (view c.args.desk.now w) c.args.number.now c.in-Some.found c.in_ok-places.places
    (subst (FindsPlan (view c.args.desk.now w) c.args.number.now) c.in-Some.is is)
    (subst (λ l. HasCapacities w.published l c.in_ok-places.places.items) c.deref.ensures.value has))
