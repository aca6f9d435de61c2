use Rattle.std.proofs.Common.{map}
use Rattle.plan_views.specs.LinkColumns.{links_of}
use Rattle.plan_weeksheet.specs.WeekRectangles.{activity_rectangle}
use Rattle.plan_weeksheet.proofs.StepLemmas.{next_rectangles}
use Rattle.plan_weeksheet.proofs.rectangles.activity_rectangles.Goals as goal

pub loop-k-preserved : goal.loop-k-preserved
loop-k-preserved c =
    next_rectangles (activity_rectangle c.args.listed.now (map links_of c.args.links.now) c.args.starts.now) c.loop-k.k _ _
    c.loop-k.invariant c.in_ok-push_activity.ensures
