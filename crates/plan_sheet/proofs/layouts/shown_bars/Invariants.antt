use Rattle.std.proofs.Common.{◌≡◌, map, take}
use Rattle.plan_table.specs.Names.{name_of}
use Rattle.plan_sheet.specs.Layouts.{layout_of, shown_bars}
use Rattle.plan_sheet.proofs.layouts.shown_bars.Given as goal

-- the shown bars so far
abbrev pub invariant-loop-bar : goal.invariant-loop-bar
invariant-loop-bar l =
    l.shown.items ≡ shown_bars (layout_of l.layout) (map name_of l.ids) (take l.bar-index l.bars)
