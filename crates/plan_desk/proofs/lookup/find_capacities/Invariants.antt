use Rattle.std.specs.Prelude.{take, Ok}
use Rattle.plan_desk.specs.BookSteps.{Finds}
use Rattle.plan_desk.specs.Lookup.{HasCapacities}
use Rattle.plan_desk.proofs.lookup.find_capacities.Given as goal

-- the capacities of the places so far are found
abbrev pub invariant-loop-bind : goal.invariant-loop-bind
invariant-loop-bind g l =
    Finds g.B.Book.shelf l.fn.book l.book (λ w places. HasCapacities w.published (take l.bind-index l.fn.binds) places.items) (Ok l.places)
