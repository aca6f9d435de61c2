use Rattle.std.proofs.Common.{arith, subst, sym}
use Rattle.plan_rows.specs.Tables.{world_beside}
use Rattle.plan_rows.proofs.RowTestLemmas.{tells_false}
use Rattle.plan_rows.proofs.TestedLemmas.{all_from_index, all_at}
use Rattle.plan_rows.proofs.row_tests.tested.all_good.Goals as goal

pub returns-then-not-is_good : goal.returns-then-not-is_good
returns-then-not-is_good g c = λ known are all.
    let w = world_beside c.args.beside.now known in
    tells_false _ c.if-not-is_good.true (c.is_good.ensures known are)
    (subst (g.T.Tested.keeps w) (sym c.row-item.is) (all_at (g.T.Tested.keeps w) c.args.rows.now c.loop-row.row-index c.row-item.result (omega arith) all))

pub returns : goal.returns
returns g c = λ known are.
    all_from_index (g.T.Tested.keeps (world_beside c.args.beside.now known)) c.args.rows.now (λ k d low. c.loop-row.invariant known are k d (omega (arith, low)))
