-- The rows before the index have room.
use Rattle.std.proofs.Common.{length}
use Rattle.plan_profile.specs.Steps.{lists}
use Rattle.plan_profile.proofs.SeekLemmas.{HasRoomUntil}
use Rattle.plan_profile.proofs.profile.Profile.fits.Given as goal

abbrev pub invariant-loop-i : goal.invariant-loop-i
invariant-loop-i l = HasRoomUntil l.self.caps.items l.self.changes.items (lists (length l.self.caps.items) l.self.changes.items l.self.rows.items) l.needs l.start l.i
