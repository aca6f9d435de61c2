use Rattle.std.proofs.Common.{ap, sym, map, subst, take, ◌+◌, ◌∙◌}
use Rattle.std.proofs.lemmas.List.{take_all}
use Rattle.plan_desk.specs.Pages.{bound_in}
use Rattle.plan_desk.specs.Lookup.{HasCapacities}
use Rattle.plan_desk.proofs.DecidingLemmas.{found_at_once, found_more, found_other, lost_then, short_of_memory, quiet_then, places_next}
use Rattle.plan_desk.proofs.lookup.find_capacities.Goals as goal

pub loop-bind-init : goal.loop-bind-init
loop-bind-init g c = found_at_once g.B.Book.shelf _ c.args.book.now c.in_ok-places.places (λ w. ap (map bound_in) c.in_ok-places.ensures.items)

pub returns-in_err-place : goal.returns-in_err-place
returns-in_err-place g c =
    lost_then g.B.Book.shelf _ _ _ c.args.book.now c.loop-bind.book _ c.loop-bind.places _ _ c.loop-bind.invariant c.in_err-place.ensures c.from_residual-in_err-place.ensures

pub returns-in_err-push : goal.returns-in_err-push
returns-in_err-push g c =
    short_of_memory g.B.Book.shelf _ c.args.book.now c.find_capacity.new.book _
    (quiet_then g.B.Book.shelf _ c.loop-bind.book _ c.loop-bind.invariant.quiet c.find_capacity.ensures.quiet)
    (c.in_ok-place.ensures.told ∙ c.loop-bind.invariant.told)
    c.from_residual-in_err-push.ensures

pub loop-bind-preserved : goal.loop-bind-preserved
loop-bind-preserved g c =
    found_more g.B.Book.shelf _ _ _ c.args.book.now c.loop-bind.book _ c.loop-bind.places c.in_ok-place.place c.push.new.self c.loop-bind.invariant c.in_ok-place.ensures
    (λ w before is. subst (HasCapacities w.published (take (c.loop-bind.bind-index + 1) c.args.binds.now)) (sym c.in_ok-push.ensures.items)
    (places_next w.published c.args.binds.now c.loop-bind.bind-index _ _ c.bind-item.result c.loop-bind-test.true (sym c.bind-item.is) before is))

pub returns : goal.returns
returns g c =
    found_other g.B.Book.shelf _ _ c.args.book.now c.loop-bind.book c.loop-bind.places c.loop-bind.places c.loop-bind.invariant
    (λ w is. subst (λ l. HasCapacities w.published l c.loop-bind.places.items) (take_all c.loop-bind.bind-index c.args.binds.now c.loop-bind-test.false) is)
