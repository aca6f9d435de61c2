use Rattle.plan_list_back.proofs.ListBackLemmas.{put_cells}
use Rattle.plan_list_back.proofs.columns.put_within.Goals as goal

pub returns : goal.returns
returns c =
    put_cells c.args.k c.args.text c.args.cells.now c.new-all.result.items c.push_cells.new.all.items c.push.new.self.items
    c.push_cells-2.new.all.items c.requires c.new-all.ensures.items c.in_ok-push_cells.ensures c.in_ok-push.ensures.items c.in_ok-push_cells-2.ensures
