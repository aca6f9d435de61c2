use Rattle.plan_weekverdict.proofs.ArcLemmas.{found_kept, found_more}
use Rattle.plan_weekverdict.proofs.arcs.with_arc.Goals as goal

pub returns-then-is_broken : goal.returns-then-is_broken
returns-then-is_broken c arcs before =
    found_more c.args.week.now c.args.starts.now arcs c.args.arc c.args.found c.earlier.result before (c.is_broken.ensures.yes c.if-is_broken.true) c.earlier.ensures

pub returns-else-is_broken : goal.returns-else-is_broken
returns-else-is_broken c arcs before =
    found_kept c.args.week.now c.args.starts.now arcs c.args.arc c.args.found before (c.is_broken.ensures.kept c.if-is_broken.false)
