use Rattle.std.proofs.Common.{arith}
use Rattle.plan_weekverdict.proofs.MissLemmas.{moved_misses, not_moved}
use Rattle.plan_weekverdict.proofs.dates.open_miss.Goals as goal

pub returns-clause-some : goal.returns-clause-some
returns-clause-some c =
    moved_misses c.args.today c.args.start c.args.earliest c.args.fixed c.moved.result (omega (arith, c.if-start-today.false)) (omega (arith, c.if-start-earliest.false)) c.moved.ensures

pub returns-clause-none : goal.returns-clause-none
returns-clause-none c =
    not_moved c.args.today c.args.start c.args.earliest c.args.fixed c.moved.result (omega (arith, c.if-start-today.false)) (omega (arith, c.if-start-earliest.false)) c.moved.ensures
