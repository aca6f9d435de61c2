-- The text of a best schedule of a job shop (docs/definitions.md, "Texts").
use Rattle.std.specs.Prelude.{ℕ, List, ◌++◌, codes}
use Rattle.std.specs.Fmt.{decimal}
use Rattle.plan_shop.specs.Shop.{JobShop}
use Rattle.plan_exact.specs.declared.answer.Kind.{Kind}
use Rattle.plan_exact.specs.declared.answer.Kind.TheVariants as kind
use Rattle.plan_exact.specs.declared.shop_solution.Solved.{Solved}
use Rattle.plan_gantt.specs.ShopTable.{shop_table_text}

-- the word of a kind
abbrev pub kind_text : Kind → List ℕ
kind_text kind.Optimal = codes "optimal"
kind_text kind.Budget = codes "budget"

-- the line of a kind and a makespan
abbrev pub kind_line : Kind → ℕ → List ℕ
kind_line found makespan = kind_text found ++ codes " " ++ decimal makespan ++ codes "\n"

-- the line, and then the table of the schedule
abbrev pub best_text_of : JobShop → Solved → List ℕ
best_text_of s solved = kind_line solved.kind solved.schedule.makespan ++ shop_table_text s solved.schedule.starts.items solved.schedule.makespan
