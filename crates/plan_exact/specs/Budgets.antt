-- Texts of budgets (docs/definitions.md, "Best schedules").
use Rattle.std.specs.Prelude.{◌≡◌, ℕ, ◌≤◌, List, get_or}
use Rattle.std.specs.Fmt.{decimal}
use Rattle.plan_exact.specs.Solutions.{IsBudget}

-- a text is a budget in decimal digits without leading zeros
abbrev pub IsBudgetText : List ℕ → ℕ → Type 0
IsBudgetText text budget = IsBudget budget × (text ≡ decimal budget)

-- a text begins with one of the digits 1 to 9
abbrev pub BeginsAboveZero : List ℕ → Type 0
BeginsAboveZero text = (49 ≤ get_or text 0 0) × (get_or text 0 0 ≤ 57)
