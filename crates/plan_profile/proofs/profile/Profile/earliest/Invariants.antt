-- All rows before the index were tested.
use Rattle.std.proofs.Common.{length}
use Rattle.plan_profile.specs.Steps.{lists}
use Rattle.plan_profile.proofs.SeekLemmas.{IsSought}
use Rattle.plan_profile.proofs.profile.Profile.earliest.Given as goal

abbrev pub invariant-loop-i : goal.invariant-loop-i
invariant-loop-i l = IsSought l.self.caps.items l.self.changes.items (lists (length l.self.caps.items) l.self.changes.items l.self.rows.items) l.needs l.from l.d l.first l.at l.i
