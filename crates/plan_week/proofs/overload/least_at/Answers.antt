use Rattle.std.proofs.Common.{ℕ, ◌<◌, arith, below_more}
use Rattle.plan_week.specs.Overloads.{IsOverload}
use Rattle.plan_week.proofs.WeekLemmas.{resources_are}
use Rattle.plan_week.proofs.OverloadLemmas.{found_here, none_here}
use Rattle.plan_week.proofs.overload.least_at.Goals as goal

pub loop-resource-preserved : goal.loop-resource-preserved
loop-resource-preserved c =
    below_more (λ (k : ℕ). IsOverload c.args.week.now k c.args.instant → ⊥) c.loop-resource.resource c.loop-resource.invariant
    (λ over. omega (arith, over.above, c.is_above.ensures.no c.if-is_above.false))

pub returns-then-is_above : goal.returns-then-is_above
returns-then-is_above c =
    found_here c.args.week.now c.loop-resource.resource c.args.instant c.requires
    (omega (arith, c.loop-resource-test.true, c.len-resource-end.ensures, resources_are c.args.week.now)) (c.is_above.ensures.yes c.if-is_above.true)
    c.loop-resource.invariant

pub returns : goal.returns
returns c =
    none_here c.args.week.now c.loop-resource.resource c.args.instant
    (omega (arith, c.loop-resource-test.false, c.loop-resource.auto.resource-end, c.len-resource-end.ensures, resources_are c.args.week.now)) c.loop-resource.invariant
