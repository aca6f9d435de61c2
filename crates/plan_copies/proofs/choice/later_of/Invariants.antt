use Rattle.std.proofs.Common.{◌≡◌, map, take, false}
use Rattle.std.specs.Prelude.{All}
use Rattle.std.specs.String.{string_bytes}
use Rattle.plan_copies.specs.Choice.{is_later}
use Rattle.plan_copies.proofs.choice.later_of.Given as goal

-- no name so far is that of a later copy
abbrev pub invariant-loop-entry : goal.invariant-loop-entry
invariant-loop-entry l =
    All (λ name. is_later l.prefix l.new name ≡ false) (map string_bytes (take l.entry-index l.names))
