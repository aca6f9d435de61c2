use Rattle.std.proofs.Common.{◌≡◌, map, drop}
use Rattle.plan_list_back.specs.ListBack.{place_from}
use Rattle.plan_list_back.proofs.columns.place_in.Given as goal

-- the column is among those that are left
abbrev pub invariant-loop-k : goal.invariant-loop-k
invariant-loop-k l =
    place_from l.word l.k (map (λ cell. cell.items) (drop l.k l.cells))
    ≡ place_from l.word 0 (map (λ cell. cell.items) l.cells)
