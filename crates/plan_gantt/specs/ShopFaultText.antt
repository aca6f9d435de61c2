-- The error lines of a job shop that is rejected (docs/definitions.md, "Texts").
use Rattle.std.specs.Prelude.{ℕ, List, ◌++◌, codes}
use Rattle.std.specs.Fmt.{decimal}
use Rattle.plan_shop.specs.declared.fault.ShopFault.{ShopFault}
use Rattle.plan_shop.specs.declared.fault.ShopFault.TheVariants as fault

-- the error line of a shop that is rejected
abbrev pub shop_fault_text_of : ShopFault → List ℕ
shop_fault_text_of fault.NoMemory = codes "E90 memory"
shop_fault_text_of fault.UnknownRule = codes "S3 unknown rule"
shop_fault_text_of (fault.MachineClosed machine) = codes "S4 machine " ++ decimal machine ++ codes " closed"
