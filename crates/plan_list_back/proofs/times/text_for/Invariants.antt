use Rattle.std.proofs.Common.{◌≡◌, map, drop}
use Rattle.std.specs.List.{find}
use Rattle.plan_table.specs.Csv.{row_of}
use Rattle.plan_list_back.specs.ListBack.{are_of, text_if, times_of}
use Rattle.plan_list_back.proofs.times.text_for.Given as goal

-- the times are among those that are left
abbrev pub invariant-loop-one : goal.invariant-loop-one
invariant-loop-one l =
    text_if l.field (find (are_of (row_of l.row)) (map times_of (drop l.one-index l.times)))
    ≡ text_if l.field (find (are_of (row_of l.row)) (map times_of l.times))
