use Rattle.std.proofs.Common.{◌++◌, ℕ, List, ap, sym, ◌∙◌, append-nil}
use Rattle.plan_shop.proofs.tree.ShopTree.letters.Goals as goal

pub returns-in-Full : goal.returns-in-Full
returns-in-Full c =
    sym (ap (λ (xs : List ℕ). c.args.list.now.items ++ xs) c.in-Full.ensures.front ∙ append-nil c.args.list.now.items)
