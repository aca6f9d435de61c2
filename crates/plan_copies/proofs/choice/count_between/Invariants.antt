use Rattle.std.proofs.Common.{◌≡◌, ◌≤◌, map, take}
use Rattle.std.specs.String.{string_bytes}
use Rattle.plan_copies.specs.Choice.{count_between}
use Rattle.plan_copies.proofs.choice.count_between.Given as goal

-- the copies so far are counted
abbrev pub invariant-loop-entry : goal.invariant-loop-entry
invariant-loop-entry l = record {
  counted : l.count ≡ count_between l.prefix l.new (map string_bytes (take l.entry-index l.names)) l.name;
  small : l.count ≤ l.entry-index;
}
