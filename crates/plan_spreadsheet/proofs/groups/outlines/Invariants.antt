use Rattle.std.proofs.Common.{◌≡◌, [], map, drop}
use Rattle.plan_table.specs.Header.{head_of}
use Rattle.plan_table.specs.Settlement.{body_of}
use Rattle.plan_spreadsheet.specs.Groups.{outlines_from}
use Rattle.plan_spreadsheet.proofs.groups.outlines.Given as goal

-- the columns that are left, behind those so far, are all of them
abbrev pub invariant-loop-k : goal.invariant-loop-k
invariant-loop-k l =
    outlines_from (body_of l.body) l.places.items l.k (map head_of (drop l.k l.heads))
    ≡ outlines_from (body_of l.body) [] 0 (map head_of l.heads)
