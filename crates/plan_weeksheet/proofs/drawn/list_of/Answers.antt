use Rattle.std.proofs.Common.{map}
use Rattle.plan_weeksheet.specs.Rectangles.{rectangle_of}
use Rattle.plan_weeksheet.proofs.ListLemmas.{kept_is_table}
use Rattle.plan_weeksheet.proofs.drawn.list_of.Goals as goal

pub invariant_of-result : goal.invariant_of-result
invariant_of-result c =
    kept_is_table c.in_ok-activities.activities.items c.in_ok-resources.resources.items c.args.capacities.now (map rectangle_of c.args.rectangles.now)
    c.in_ok-activities.ensures c.in_ok-resources.ensures c.requires.few c.requires.small
