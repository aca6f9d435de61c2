use Rattle.std.proofs.Common.{◌≡◌, map}
use Rattle.std.specs.List.{range_with_len}
use Rattle.plan_weeksheet.specs.Drawn.{drawn_need}
use Rattle.plan_weeksheet.proofs.drawn.drawn_needs.Given as goal

-- the amounts so far
abbrev pub invariant-loop-k : goal.invariant-loop-k
invariant-loop-k l = l.drawn.items ≡ map (drawn_need l.capacities l.needs) (range_with_len 0 l.k)
