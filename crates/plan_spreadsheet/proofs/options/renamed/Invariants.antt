use Rattle.std.proofs.Common.{◌≡◌, map, drop}
use Rattle.plan_spreadsheet.specs.Options.{rename_of, renamed}
use Rattle.plan_spreadsheet.proofs.options.renamed.Given as goal

-- the word is that of the renames that are left
abbrev pub invariant-loop-rename : goal.invariant-loop-rename
invariant-loop-rename l =
    renamed (map rename_of (drop l.rename-index l.renames)) l.cell ≡ renamed (map rename_of l.renames) l.cell
