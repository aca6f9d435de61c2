use Rattle.std.proofs.Common.{◌≡◌, map, take}
use Rattle.std.specs.Prelude.{filter}
use Rattle.std.specs.String.{string_bytes}
use Rattle.plan_copies.specs.Choice.{is_expired}
use Rattle.plan_copies.proofs.choice.expired.Given as goal

-- the expired names so far are listed
abbrev pub invariant-loop-entry : goal.invariant-loop-entry
invariant-loop-entry l = map string_bytes l.old.items
    ≡ filter (is_expired l.prefix l.new l.keep (map string_bytes l.names)) (map string_bytes (take l.entry-index l.names))
