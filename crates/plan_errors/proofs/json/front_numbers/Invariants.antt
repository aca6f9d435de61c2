use Rattle.std.proofs.Common.{◌≡◌, ◌++◌, length, map}
use Rattle.serde_json.specs.View.{view}
use Rattle.plan_psplib.specs.Lines.{words}
use Rattle.plan_errors.specs.ErrorData.{front_numbers, number_data}
use Rattle.plan_errors.proofs.json.front_numbers.Given as goal

-- the numbers so far, and behind them those of the words that are left, are all numbers
abbrev pub invariant-loop-word : goal.invariant-loop-word
invariant-loop-word l =
    map view l.list.items ++ map number_data (front_numbers l.left) ≡ map number_data (front_numbers (words l.text))

abbrev pub decreases-loop-word : goal.decreases-loop-word
decreases-loop-word l = length l.left
