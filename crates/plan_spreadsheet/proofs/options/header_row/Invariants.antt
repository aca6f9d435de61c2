use Rattle.std.proofs.Common.{◌≡◌, map, take}
use Rattle.plan_spreadsheet.specs.Options.{header_cell, options_of}
use Rattle.plan_spreadsheet.proofs.options.header_row.Given as goal

-- the headers so far
abbrev pub invariant-loop-cell : goal.invariant-loop-cell
invariant-loop-cell l =
    map (λ cell. cell.items) l.cells.items
    ≡ map (header_cell (options_of l.options)) (map (λ cell. cell.items) (take l.cell-index l.row.cells.items))
