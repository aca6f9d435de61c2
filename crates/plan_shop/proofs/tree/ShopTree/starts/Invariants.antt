-- The starts so far, none of them late.
use Rattle.std.proofs.Common.{◌≡◌, ◌≤◌, All}
use Rattle.plan_shop.specs.Shop.{table}
use Rattle.plan_shop.specs.Words.{start_in}
use Rattle.plan_shop.specs.Trees.{placed}
use Rattle.plan_shop.proofs.tree.ShopTree.starts.Given as goal

abbrev pub invariant-loop-i : goal.invariant-loop-i
invariant-loop-i l = record {
  starts : l.starts.items ≡ table l.i (start_in (placed l.self));
  within : All (λ t. t ≤ 10000000) l.starts.items;
}
