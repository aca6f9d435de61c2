use Rattle.std.proofs.Common.{ℕ, ◌≤◌, List, length, sym, ◌∙◌, subst}
use Rattle.plan_orlib.specs.Says.{Says}
use Rattle.plan_table.specs.ShopTable.{shop_of}
use Rattle.plan_table.specs.ShopText.{instance}
use Rattle.plan_table.specs.ShopNames.{SaysShopNames}
use Rattle.plan_table.proofs.ShopNameLemmas.{shop_names_said}
use Rattle.plan_table.proofs.ShopTextLemmas.{shop_said}
use Rattle.plan_table.proofs.jobshop.shop_text.Goals as goal

pub returns-clause-says : goal.returns-clause-says
returns-clause-says c =
    let text = c.in_ok-text.ensures.text in
    let short = subst (λ (bytes : List ℕ). length bytes ≤ 1048576) (c.as_bytes.ensures.value ∙ text) c.if-as_bytes-gt-LONGEST_TEXT.false in
    subst (λ (bytes : List ℕ). Says instance bytes (shop_of c.args.table.now)) (sym text)
    (shop_said c.args.table.now c.in_ok-text.ensures.table short)

pub returns-clause-names : goal.returns-clause-names
returns-clause-names c =
    subst (λ (bytes : List ℕ). SaysShopNames bytes c.args.table.now) (sym c.in_ok-text.ensures.text) (shop_names_said c.args.table.now c.in_ok-text.ensures.table)
