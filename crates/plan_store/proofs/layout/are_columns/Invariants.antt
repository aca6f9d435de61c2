use Rattle.std.proofs.Common.{◌≡◌, map, take}
use Rattle.plan_store.specs.Layouts.{filled_of}
use Rattle.plan_store.proofs.layout.are_columns.Given as goal

-- the columns so far are those that are wanted
abbrev pub invariant-loop-at : goal.invariant-loop-at
invariant-loop-at l = take l.at l.columns ≡ map filled_of (take l.at l.wanted)
