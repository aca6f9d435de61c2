use Rattle.std.proofs.Common.{map}
use Rattle.plan_table.specs.Names.{name_of}
use Rattle.plan_views.specs.LinkColumns.{with_need}
use Rattle.plan_views.proofs.RowLemmas.{next_fold}
use Rattle.plan_views.proofs.links.needs_text.Goals as goal

pub loop-k-preserved : goal.loop-k-preserved
loop-k-preserved c =
    next_fold (with_need (map name_of c.args.names.now) c.args.needs.now) _ c.loop-k.k _ _ c.loop-k.invariant c.in_ok-push_need.ensures
