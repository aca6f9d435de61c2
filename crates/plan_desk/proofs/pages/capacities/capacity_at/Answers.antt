use Rattle.std.proofs.Common.{sym, ◌∙◌}
use Rattle.plan_desk.proofs.PlaceLemmas.{capacity_at-here, capacity_at-past}
use Rattle.plan_desk.proofs.pages.capacities.capacity_at.Goals as goal

pub returns-then-bound-place : goal.returns-then-bound-place
returns-then-bound-place c =
    sym (capacity_at-here c.args.places.now c.loop-bound.bound-index _ c.args.place c.loop-bound-test.true c.if-bound-place.true)
    ∙ c.loop-bound.invariant

pub loop-bound-preserved : goal.loop-bound-preserved
loop-bound-preserved c =
    capacity_at-past c.args.places.now c.loop-bound.bound-index _ c.args.place c.loop-bound-test.true c.if-bound-place.false
    ∙ c.loop-bound.invariant
