use Rattle.std.proofs.Common.{◌≡◌, map, take}
use Rattle.serde_json.specs.View.{view}
use Rattle.plan_formats.specs.JsonData.{number_data}
use Rattle.plan_formats.proofs.json_value.numbers_value.Given as goal

-- the numbers so far
abbrev pub invariant-loop-n : goal.invariant-loop-n
invariant-loop-n l = map view l.list.items ≡ map number_data (take l.n-index l.numbers)
