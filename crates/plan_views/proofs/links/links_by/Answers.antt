use Rattle.std.proofs.Common.{map}
use Rattle.plan_table.specs.Names.{first_name, name_of}
use Rattle.plan_views.specs.LinkColumns.{links_if, links_of}
use Rattle.plan_views.proofs.RowLemmas.{next_item_from_one}
use Rattle.plan_views.proofs.links.links_by.Goals as goal

pub loop-k-preserved : goal.loop-k-preserved
loop-k-preserved c =
    next_item_from_one links_of (λ j. links_if (first_name j (map name_of c.args.ids.now)) c.args.instance.now (map name_of c.args.resources.now) (map name_of c.args.words.now) j) c.loop-k.k _ _ c.in_ok-links_if.field-0
    c.loop-k.invariant c.in_ok-links_if.ensures c.in_ok-push.ensures.items
