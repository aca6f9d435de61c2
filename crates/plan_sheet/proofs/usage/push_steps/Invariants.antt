use Rattle.std.proofs.Common.{◌≡◌, ◌≤◌, ◌-◌, ◌++◌, flat_map}
use Rattle.std.specs.String.{string_bytes}
use Rattle.std.specs.List.{range_with_len}
use Rattle.plan_sheet.specs.Usage.{step_at}
use Rattle.plan_sheet.proofs.usage.push_steps.Given as goal

-- the steps so far are written
abbrev pub invariant-loop-t : goal.invariant-loop-t
invariant-loop-t l = record {
  within : l.t ≤ l.makespan;
  written : string_bytes l.text ≡ string_bytes l.fn.text ++ flat_map (step_at l.span l.days l.per_day l.capacity l.uses) (range_with_len 0 l.t);
}

abbrev pub decreases-loop-t : goal.decreases-loop-t
decreases-loop-t l = l.makespan - l.t
