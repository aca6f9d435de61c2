use Rattle.std.proofs.Common.{◌≡◌, flat_map}
use Rattle.std.specs.List.{range_with_len}
use Rattle.plan_sheet.specs.Parts.{part_at}
use Rattle.plan_sheet.proofs.parts.row_parts.Given as goal

-- the resources of the amounts so far
abbrev pub invariant-loop-k : goal.invariant-loop-k
invariant-loop-k l = l.parts.items ≡ flat_map (part_at l.row) (range_with_len 0 l.k)
