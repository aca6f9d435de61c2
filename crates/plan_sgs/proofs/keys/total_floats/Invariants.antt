-- The numbers so far.
use Rattle.std.proofs.Common.{◌+◌}
use Rattle.plan_cpm.specs.Dates.{total_float_of}
use Rattle.plan_sgs.proofs.KeyLemmas.{AreValues}
use Rattle.plan_sgs.proofs.keys.total_floats.Given as goal

abbrev pub invariant-loop-i : goal.invariant-loop-i
invariant-loop-i l = AreValues (λ h. total_float_of l.table (h + 1)) l.keys.items l.i
