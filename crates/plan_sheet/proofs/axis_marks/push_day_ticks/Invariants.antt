use Rattle.std.proofs.Common.{◌≡◌, ◌++◌, flat_map}
use Rattle.std.specs.String.{string_bytes}
use Rattle.std.specs.List.{range_with_len}
use Rattle.plan_sheet.specs.Marks.{day_tick}
use Rattle.plan_sheet.proofs.axis_marks.push_day_ticks.Given as goal

-- the days so far are written
abbrev pub invariant-loop-t : goal.invariant-loop-t
invariant-loop-t l =
    string_bytes l.text ≡ string_bytes l.fn.text ++ flat_map (day_tick l.span l.days l.height) (range_with_len 0 l.t)
