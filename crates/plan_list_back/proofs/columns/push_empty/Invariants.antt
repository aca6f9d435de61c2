use Rattle.std.proofs.Common.{◌≡◌, ◌++◌, [], map, replicate}
use Rattle.plan_list_back.proofs.columns.push_empty.Given as goal

-- the cells before, and the empty ones so far
abbrev pub invariant-loop-done : goal.invariant-loop-done
invariant-loop-done l =
    map (λ cell. cell.items) l.all.items
    ≡ map (λ cell. cell.items) l.fn.all.items ++ replicate l._done []
