use Rattle.plan_exact.proofs.ShopTreeLemmas.{tree_has_words, shop_trees_keep_laws}
use Rattle.plan_exact.proofs.shop_laws.shops_make_trees.Goals as goal

pub returns-clause-words : goal.returns-clause-words
returns-clause-words c = tree_has_words

pub returns-clause-laws : goal.returns-clause-laws
returns-clause-laws c = shop_trees_keep_laws
