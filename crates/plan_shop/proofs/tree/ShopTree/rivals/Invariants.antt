-- The letters of the rivals so far.
use Rattle.std.proofs.Common.{◌≡◌, ◌++◌, map}
use Rattle.plan_shop.specs.Shop.{those_below}
use Rattle.plan_shop.specs.Words.{letter_of}
use Rattle.plan_shop.specs.Trees.{is_rival}
use Rattle.plan_shop.proofs.tree.ShopTree.rivals.Given as goal

abbrev pub invariant-loop-job : goal.invariant-loop-job
invariant-loop-job l = l.list.items ≡ l.initial.list.items ++ map letter_of (those_below l.job (is_rival l.self l.machine l.end))
