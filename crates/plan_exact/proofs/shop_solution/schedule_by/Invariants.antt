use Rattle.std.proofs.Common.{◌≡◌, take}
use Rattle.plan_shop.specs.Trees.{standing}
use Rattle.plan_exact.proofs.shop_solution.schedule_by.Given as goal

-- the tree is at the word of the letters so far
abbrev pub invariant-loop-letter : goal.invariant-loop-letter
invariant-loop-letter l = l.tree ≡ standing l.fn.shop (take l.letter-index l.word)
