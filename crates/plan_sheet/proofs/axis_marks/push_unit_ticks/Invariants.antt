use Rattle.std.proofs.Common.{◌≡◌, ◌++◌, flat_map}
use Rattle.std.specs.String.{string_bytes}
use Rattle.std.specs.List.{range_with_len}
use Rattle.plan_sheet.specs.Marks.{unit_tick}
use Rattle.plan_sheet.proofs.axis_marks.push_unit_ticks.Given as goal

-- the marks so far are written
abbrev pub invariant-loop-k : goal.invariant-loop-k
invariant-loop-k l =
    string_bytes l.text ≡ string_bytes l.fn.text ++ flat_map (unit_tick l.span l.height) (range_with_len 0 l.k)
