use Rattle.std.proofs.Common.{◌≡◌, map, drop}
use Rattle.plan_report.specs.Sheet.{cells_of, has_columns}
use Rattle.plan_report.proofs.sheet.has_columns.Given as goal

-- the names that are left, in the cells that are left, decide
abbrev pub invariant-loop-name : goal.invariant-loop-name
invariant-loop-name l = has_columns (map (λ name. name.now) (drop l.name-index l.columns)) (cells_of l.rest) ≡ has_columns (map (λ name. name.now) l.columns) (cells_of l.cells)
