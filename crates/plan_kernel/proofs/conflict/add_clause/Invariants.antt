use Rattle.std.proofs.Common.{take}
use Rattle.plan_kernel.specs.Clauses.{IsListed, IsRaised, AreCovered}
use Rattle.plan_kernel.proofs.conflict.add_clause.Given as goal

-- the negations of the literals so far are covered
abbrev pub invariant-loop-literal : goal.invariant-loop-literal
invariant-loop-literal l = record {
  listed : IsListed l.values.items l.touched.items;
  raised : IsRaised l.initial.values.items l.values.items;
  covered : AreCovered l.facts l.values.items l.pivot (take l.literal-index l.clause);
}
