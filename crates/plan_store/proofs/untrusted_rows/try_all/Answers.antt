use Rattle.std.proofs.Common.{subst, Some}
use Rattle.plan_store.proofs.QueryRowsLemmas.{zip_more, zip_whole}
use Rattle.plan_store.proofs.untrusted_rows.try_all.Goals as goal

pub loop-row-init : goal.loop-row-init
loop-row-init g c = rw c.new-all.ensures.items tt

pub loop-row-preserved : goal.loop-row-preserved
loop-row-preserved g c =
    let takes = subst (g.T.TryFromRow.takes c.row-item.result) c.in-Some.is c.in_ok-taken.ensures in
    let here = subst (λ r. g.T.TryFromRow.takes r (Some c.in-Some.taken)) c.row-item.is takes in
    zip_more (λ row x. g.T.TryFromRow.takes row (Some x)) c.args.rows.now c.loop-row.row-index c.row-item.result c.loop-row.all.items c.push.new.self.items c.in-Some.taken c.loop-row-test.true
    c.loop-row.invariant here c.in_ok-push-in-Some.ensures.items

pub returns : goal.returns
returns g c = zip_whole (λ row x. g.T.TryFromRow.takes row (Some x)) c.args.rows.now c.loop-row.row-index c.loop-row.all.items c.loop-row-test.false c.loop-row.invariant
