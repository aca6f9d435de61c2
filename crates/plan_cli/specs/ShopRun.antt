-- The output of `plan shop` for the bytes that it reads (docs/definitions.md, "Runs").
use Rattle.std.specs.Prelude.{◌≡◌, ◌⊎◌, ℕ, List}
use Rattle.plan_orlib.specs.Shop as docs
use Rattle.plan_orlib.specs.Says.{Says}
use Rattle.plan_shop.specs.Docs.{shop_of}
use Rattle.plan_shop.specs.declared.fault.ShopFault.{ShopFault}
use Rattle.plan_shop.specs.declared.fault.ShopFault.TheVariants as shops
use Rattle.plan_gantt.specs.FirstFaults.{TellsFirstShopFault}
use Rattle.plan_gantt.specs.ShopText.{IsShopTextOf, TellsNoRule}
use Rattle.plan_gantt.specs.ShopFaultText.{shop_fault_text_of}

-- a text is the table of the shop of an instance in a file, by the rule with this name
abbrev pub IsShopTableOf : List ℕ → List ℕ → List ℕ → List ℕ → Type 0
IsShopTableOf name instance file text =
    (doc : docs.Shop) × Says instance file doc × IsShopTextOf name (shop_of doc) text

-- a line gives the first check that a file fails, or else reports that no rule has this name: all
-- machines are open
abbrev pub TellsWhyNoShop : List ℕ → List ℕ → List ℕ → List ℕ → Type 0
TellsWhyNoShop name instance file line = TellsFirstShopFault instance file line
    ⊎ ((doc : docs.Shop) × Says instance file doc × TellsNoRule name line)

-- a line gives the error of a shop, which isn't that of memory
abbrev pub TellsShop : ShopFault → List ℕ → Type 0
TellsShop first line = (first ≡ shops.NoMemory → ⊥) × (line ≡ shop_fault_text_of first)
