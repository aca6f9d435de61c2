use Rattle.std.proofs.Common.{arith}
use Rattle.plan_kernel.proofs.TouchedLemmas.{listed_without}
use Rattle.plan_kernel.proofs.conflict.clear_half.Goals as goal

pub returns-then-half-len-clause-listed : goal.returns-then-half-len-clause-listed
returns-then-half-len-clause-listed c =
    listed_without c.args.values.now.items c.args.touched.now.items c.take_out.new.touched.items c.args.half (omega (arith, c.if-half-len.true, c.len.ensures)) c.requires c.take_out.ensures
