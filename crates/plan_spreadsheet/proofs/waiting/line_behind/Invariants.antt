use Rattle.std.proofs.Common.{◌≡◌, map, drop}
use Rattle.plan_spreadsheet.specs.Waits.{line_behind}
use Rattle.plan_spreadsheet.proofs.waiting.line_behind.Given as goal

-- the cells that are left end in the line in which all end
abbrev pub invariant-loop-cell : goal.invariant-loop-cell
invariant-loop-cell l =
    line_behind l.last (map (λ cell. cell.items) (drop l.cell-index l.cells))
    ≡ line_behind l.line (map (λ cell. cell.items) l.cells)
