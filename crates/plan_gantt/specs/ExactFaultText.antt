-- The error lines of a search that is rejected (docs/definitions.md, "Texts").
use Rattle.std.specs.Prelude.{ℕ, List, codes}
use Rattle.plan_exact.specs.declared.fault.ExactFault.{ExactFault}
use Rattle.plan_exact.specs.declared.fault.ExactFault.TheVariants as fault

-- the error line of a search that is rejected
abbrev pub exact_fault_text_of : ExactFault → List ℕ
exact_fault_text_of fault.NoMemory = codes "E90 memory"
exact_fault_text_of fault.TooLarge = codes "S5 too large"
exact_fault_text_of fault.BadBudget = codes "S6 budget"
