use Rattle.std.proofs.Common.{◌≡◌, map, drop}
use Rattle.plan_spreadsheet.specs.Options.{is_missing}
use Rattle.plan_spreadsheet.proofs.options.is_missing.Given as goal

-- the header is among those that are left
abbrev pub invariant-loop-cell : goal.invariant-loop-cell
invariant-loop-cell l =
    is_missing (map (λ cell. cell.items) (drop l.cell-index l.cells)) l.name
    ≡ is_missing (map (λ cell. cell.items) l.cells) l.name
