use Rattle.std.proofs.Common.{◌≡◌, ℕ, ◌-◌, ◌<◌, List, length, map, drop, sym, ◌∙◌, arith}
use Rattle.std.specs.Borrow.{Bor}
use Rattle.std.proofs.lemmas.List.{length-map, length-drop}
use Rattle.plan_report.specs.Sheet.{cells_of}
use Rattle.plan_report.proofs.SheetLemmas.{no_cells}
use Rattle.plan_report.proofs.sheet.has_columns.Goals as goal

pub returns-in_default : goal.returns-in_default
returns-in_default c =
    let left : List (Bor (List ℕ)) = drop c.loop-name.name-index c.args.columns.now in
    let names : List (List ℕ) = map (λ (name : Bor (List ℕ)). name.now) left in
    let cells : List (List ℕ) = cells_of c.loop-name.rest.now in
    let few : length cells < 1 = omega (arith, length-map c.loop-name.rest.now (λ (cell : Bor (List ℕ)). cell.now), c.in_default.len_below) in
    let many : length left ≡ length c.args.columns.now - c.loop-name.name-index = length-drop c.loop-name.name-index c.args.columns.now in
    let some : 0 < length names = omega (arith, length-map left (λ (name : Bor (List ℕ)). name.now), many, c.loop-name-test.true) in
    sym (no_cells names cells few some) ∙ c.loop-name.invariant
