use Rattle.std.proofs.Common.{◌≡◌, ◌++◌, take, flat_map}
use Rattle.std.specs.String.{string_bytes}
use Rattle.plan_sheet.specs.Feed.{bar_text, events_of, feed_with, work_of}
use Rattle.plan_sheet.proofs.calendar_file.push_bars.Given as goal

-- the events of the bars so far are written
abbrev pub invariant-loop-bar : goal.invariant-loop-bar
invariant-loop-bar l =
    string_bytes l.text
    ≡ string_bytes l.fn.text ++ flat_map (bar_text (feed_with (work_of l.work) (events_of l.events) l.days l.nexts)) (take l.bar-index l.bars)
