use Rattle.std.proofs.Common.{◌≡◌, ℕ, length, take}
use Rattle.plan_desk.proofs.files.Files.make_room.Given as goal

-- the files that are left are the first ones
abbrev pub invariant-loop-self : goal.invariant-loop-self
invariant-loop-self l = (k : ℕ) × (l.self ≡ take k l.fn.self)

abbrev pub decreases-loop-self : goal.decreases-loop-self
decreases-loop-self l = length l.self
