use Rattle.plan_sgs.specs.Checks.{IsOverAmong}
use Rattle.plan_shop.specs.Shop.{problem_of}
use Rattle.plan_shop.proofs.checks.overloads.first_over.Given as goal

-- the least overloaded one of the starts so far
abbrev pub invariant-loop-i : goal.invariant-loop-i
invariant-loop-i l = IsOverAmong (problem_of l.shop) l.starts l.i l.least
