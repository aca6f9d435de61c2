use Rattle.std.proofs.Common.{◌≡◌, map, take}
use Rattle.serde_json.specs.View.{view}
use Rattle.plan_errors.specs.ErrorData.{number_data}
use Rattle.plan_errors.proofs.json.number_values.Given as goal

-- the numbers so far
abbrev pub invariant-loop-n : goal.invariant-loop-n
invariant-loop-n l = map view l.list.items ≡ map number_data (take l.n-index l.numbers)
