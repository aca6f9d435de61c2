use Rattle.std.proofs.Common.{◌≡◌, length}
use Rattle.plan_psplib.specs.Streams.{rows}
use Rattle.plan_psplib.proofs.text.streams.next_row.Given as goal

-- the lines so far don't count
abbrev pub invariant-loop-line : goal.invariant-loop-line
invariant-loop-line g l = rows g.L.Layout.takes g.L.Layout.ends l.lines ≡ rows g.L.Layout.takes g.L.Layout.ends l.fn.lines

abbrev pub decreases-loop-line : goal.decreases-loop-line
decreases-loop-line g l = length l.lines
