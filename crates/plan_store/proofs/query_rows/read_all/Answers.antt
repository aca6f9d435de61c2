use Rattle.std.proofs.Common.{subst}
use Rattle.plan_store.proofs.QueryRowsLemmas.{zip_more, zip_whole}
use Rattle.plan_store.proofs.query_rows.read_all.Goals as goal

pub loop-row-init : goal.loop-row-init
loop-row-init g c = rw c.new-all.ensures.items tt

pub loop-row-preserved : goal.loop-row-preserved
loop-row-preserved g c =
    let shows = subst (λ r. g.T.FromRow.shows r c.in_ok-from_row.field-0) c.row-item.is c.in_ok-from_row.ensures in
    zip_more g.T.FromRow.shows c.args.rows.now c.loop-row.row-index c.row-item.result c.loop-row.all.items c.push.new.self.items c.in_ok-from_row.field-0 c.loop-row-test.true
    c.loop-row.invariant shows c.in_ok-push.ensures.items

pub returns : goal.returns
returns g c = zip_whole g.T.FromRow.shows c.args.rows.now c.loop-row.row-index c.loop-row.all.items c.loop-row-test.false c.loop-row.invariant
