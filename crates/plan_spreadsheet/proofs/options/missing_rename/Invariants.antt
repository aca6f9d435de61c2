use Rattle.std.proofs.Common.{◌≡◌, map, drop}
use Rattle.plan_spreadsheet.specs.Options.{missing_rename, rename_of}
use Rattle.plan_spreadsheet.proofs.options.missing_rename.Given as goal

-- the header is among those that are left
abbrev pub invariant-loop-k : goal.invariant-loop-k
invariant-loop-k l =
    missing_rename (map (λ cell. cell.items) l.cells) l.k (map rename_of (drop l.k l.renames))
    ≡ missing_rename (map (λ cell. cell.items) l.cells) 0 (map rename_of l.renames)
