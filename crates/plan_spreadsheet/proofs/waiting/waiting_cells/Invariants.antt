use Rattle.std.proofs.Common.{◌≡◌, map, take}
use Rattle.plan_table.specs.Header.{head_of}
use Rattle.plan_spreadsheet.specs.Waits.{wait_of, waiting_cells}
use Rattle.plan_spreadsheet.proofs.waiting.waiting_cells.Given as goal

-- the cells so far
abbrev pub invariant-loop-head : goal.invariant-loop-head
invariant-loop-head l = map (λ cell. cell.items) l.cells.items ≡ waiting_cells l.k (wait_of l.wait) (map head_of (take l.head-index l.heads))
