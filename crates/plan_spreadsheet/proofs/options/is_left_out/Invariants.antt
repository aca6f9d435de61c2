use Rattle.std.proofs.Common.{◌≡◌, map, drop}
use Rattle.plan_spreadsheet.specs.Options.{is_left_out}
use Rattle.plan_spreadsheet.proofs.options.is_left_out.Given as goal

-- the header is among those that are left
abbrev pub invariant-loop-name : goal.invariant-loop-name
invariant-loop-name l =
    is_left_out (map (λ name. name.now) (drop l.name-index l.ignored)) l.cell
    ≡ is_left_out (map (λ name. name.now) l.ignored) l.cell
