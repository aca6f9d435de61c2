use Rattle.std.proofs.Common.{◌≡◌, arith, drop, subst}
use Rattle.plan_rows.specs.PlanReview.{AreKeys}
use Rattle.plan_rows.proofs.KeyedLemmas.{seen_more}
use Rattle.plan_rows.proofs.row_tests.keyed.keys_of.Goals as goal

pub loop-at-preserved : goal.loop-at-preserved
loop-at-preserved g c =
    seen_more g.T.Keyed.key_of c.args.rows.now c.loop-at.at c.index-rows-at.result c.key.result c.loop-at.keys.keys c.insert.new.self.keys (omega arith) (omega arith) c.index-rows-at.is c.key.ensures
    c.in_ok-insert.ensures.updates.0 c.loop-at.invariant

pub returns : goal.returns
returns g c =
    let none : c.loop-at.at ≡ 0 = omega arith in
    subst (λ n. AreKeys g.T.Keyed.key_of c.loop-at.keys.keys (drop n c.args.rows.now)) none c.loop-at.invariant
