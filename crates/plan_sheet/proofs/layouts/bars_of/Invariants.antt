use Rattle.std.proofs.Common.{◌≡◌, map}
use Rattle.std.specs.List.{range_with_len}
use Rattle.plan_sheet.specs.Layouts.{bar_at, layout_of}
use Rattle.plan_sheet.proofs.layouts.bars_of.Given as goal

-- the bars so far
abbrev pub invariant-loop-k : goal.invariant-loop-k
invariant-loop-k l = l.bars.items ≡ map (bar_at (layout_of l.layout) l.starts) (range_with_len 0 l.k)
