use Rattle.std.proofs.Common.{◌≡◌, take}
use Rattle.plan_exact.proofs.questions.Question.of_shop.Given as goal

-- the steps read so far
abbrev pub invariant-loop-i : goal.invariant-loop-i
invariant-loop-i l = l.steps.items ≡ take l.i l.shop.steps
