use Rattle.std.proofs.Common.{◌≡◌, take, vec_items}
use Rattle.std.specs.List.{flat_map}
use Rattle.plan_door.proofs.replay.concat.Given as goal

-- the texts so far
abbrev pub invariant-loop-text : goal.invariant-loop-text
invariant-loop-text l = l.all.items ≡ flat_map vec_items (take l.text-index l.texts)
