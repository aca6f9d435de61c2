use Rattle.std.proofs.Common.{◌≡◌, ◌++◌, length, map}
use Rattle.std.specs.List.{filter_map}
use Rattle.plan_table.specs.Names.{name_of, named, names_behind}
use Rattle.plan_table.proofs.names.names_behind.Given as goal

-- the names so far, and behind them those of the lines that are left, are all names
abbrev pub invariant-loop-line : goal.invariant-loop-line
invariant-loop-line l = map name_of l.names.items ++ filter_map (λ line. named l.key line.text) l.lines ≡ names_behind l.key l.text

abbrev pub decreases-loop-line : goal.decreases-loop-line
decreases-loop-line l = length l.lines
