use Rattle.std.proofs.Common.{◌≡◌, map, drop}
use Rattle.plan_spreadsheet.specs.Options.{missing_ignored}
use Rattle.plan_spreadsheet.proofs.options.missing_ignored.Given as goal

-- the header is among those that are left
abbrev pub invariant-loop-k : goal.invariant-loop-k
invariant-loop-k l =
    missing_ignored (map (λ cell. cell.items) l.cells) l.k (map (λ name. name.now) (drop l.k l.ignored))
    ≡ missing_ignored (map (λ cell. cell.items) l.cells) 0 (map (λ name. name.now) l.ignored)
