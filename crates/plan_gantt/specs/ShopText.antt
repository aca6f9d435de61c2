-- The text of a job shop's schedule by the rule of a name, or its error line (docs/definitions.md,
-- "Texts").
use Rattle.std.specs.Prelude.{◌≡◌, ℕ, List}
use Rattle.plan_sgs.specs.Problem.{IsActive, makespan}
use Rattle.plan_shop.specs.Shop.{JobShop, problem_of}
use Rattle.plan_shop.specs.Words.{starts_of}
use Rattle.plan_shop.specs.Laws.{placed_in}
use Rattle.plan_shop.specs.Names.{rule_text, word_by, RefusesWord}
use Rattle.plan_shop.specs.declared.rule.ShopRule.{ShopRule}
use Rattle.plan_shop.specs.declared.fault.ShopFault.{ShopFault}
use Rattle.plan_gantt.specs.ShopTable.{shop_table_text}
use Rattle.plan_gantt.specs.ShopFaultText.{shop_fault_text_of}

-- the starts of a shop's schedule by a rule
abbrev pub rule_starts : ShopRule → JobShop → List ℕ
rule_starts rule s = starts_of s (placed_in s (word_by rule s))

-- a text is the table of a shop's schedule by a rule, which is active
pub record IsTableBy (rule : ShopRule) (s : JobShop) (text : List ℕ) : Type 0 where
  pub active : IsActive (problem_of s) (rule_starts rule s)
  pub shown : text ≡ shop_table_text s (rule_starts rule s) (makespan (problem_of s) (rule_starts rule s))

-- a text is the table of a shop by the rule of a name
abbrev pub IsShopTextOf : List ℕ → JobShop → List ℕ → Type 0
IsShopTextOf name s text = (rule : ShopRule) × (name ≡ rule_text rule) × IsTableBy rule s text

-- a line reports that no rule has the name
abbrev pub TellsNoRule : List ℕ → List ℕ → Type 0
TellsNoRule name line =
    (first : ShopFault) × RefusesWord name first × (line ≡ shop_fault_text_of first)
