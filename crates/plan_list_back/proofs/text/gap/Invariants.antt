use Rattle.std.proofs.Common.{◌≡◌, ◌-◌, map, take}
use Rattle.plan_spreadsheet.specs.Spelling.{feeds}
use Rattle.plan_list_back.proofs.text.gap.Given as goal

-- the line feeds in the cells so far are taken off
abbrev pub invariant-loop-cell : goal.invariant-loop-cell
invariant-loop-cell l =
    l.left ≡ (l.line - l.before.line) - feeds (map (λ cell. cell.items) (take l.cell-index l.before.cells.items))
