use Rattle.std.proofs.Common.{ℕ, ◌<◌, length, take}
use Rattle.plan_net.specs.Network.{unlagged}
use Rattle.plan_net.specs.Limits.{IsNewArc}
use Rattle.plan_net.specs.Marks.{IsSquare, AreMarks}
use Rattle.plan_net.proofs.tables.first_double_arc.Given as goal

-- the arcs so far are new, and the marks are theirs
abbrev pub invariant-loop-i : goal.invariant-loop-i
invariant-loop-i l = record {
  square : IsSquare (length l.durations) l.marks.items;
  marks : AreMarks (take l.i-index l.arcs) l.marks.items;
  new_arcs : (m : ℕ) → m < l.i-index → IsNewArc (unlagged l.durations l.arcs) m;
}
