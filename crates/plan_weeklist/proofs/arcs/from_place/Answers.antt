use Rattle.std.proofs.Common.{map, ap, ◌∙◌}
use Rattle.plan_table.specs.Table.{activity_of}
use Rattle.plan_weeklist.proofs.ListedWeekLemmas.{rest_of, those_dropped}
use Rattle.plan_weeklist.proofs.arcs.from_place.Goals as goal

pub returns-then-place-all : goal.returns-then-place-all
returns-then-place-all c =
    ap (map activity_of) (rest_of c.args.place c.args.all.now) ∙ those_dropped c.args.all.now c.args.place
