use Rattle.std.proofs.Common.{◌≡◌, arith, drop}
use Rattle.std.proofs.Common.{subst}
use Rattle.plan_rows.specs.Rules.{AllDiffer}
use Rattle.plan_rows.specs.RowTests.{same_key}
use Rattle.plan_rows.proofs.KeyedLemmas.{seen_at, new_at, seen_more}
use Rattle.plan_rows.proofs.row_tests.keyed.all_differ.Goals as goal

pub returns-then-not-is_new : goal.returns-then-not-is_new
returns-then-not-is_new g c =
    seen_at g.T.Keyed.key_of c.args.rows.now c.loop-i.i c.index-rows-i.result c.key.result c.loop-i.seen.keys (omega arith) (omega arith) c.index-rows-i.is c.key.ensures
    c.loop-i.invariant.1 c.in_ok-is_new.ensures.added c.if-not-is_new.true

pub loop-i-preserved : goal.loop-i-preserved
loop-i-preserved g c = (
  new_at g.T.Keyed.key_of c.args.rows.now c.loop-i.i c.index-rows-i.result c.key.result c.loop-i.seen.keys (omega arith) (omega arith) c.index-rows-i.is c.key.ensures
      c.loop-i.invariant.1 c.in_ok-is_new.ensures.added c.if-not-is_new.false c.loop-i.invariant.0,
  seen_more g.T.Keyed.key_of c.args.rows.now c.loop-i.i c.index-rows-i.result c.key.result c.loop-i.seen.keys c.insert.new.self.keys (omega arith) (omega arith) c.index-rows-i.is c.key.ensures
      c.in_ok-is_new.ensures.updates.0 c.loop-i.invariant.1,
)

pub returns : goal.returns
returns g c =
    let none : c.loop-i.i ≡ 0 = omega arith in
    subst (λ n. AllDiffer (λ a b. same_key (g.T.Keyed.key_of a) (g.T.Keyed.key_of b)) (drop n c.args.rows.now)) none c.loop-i.invariant.0
