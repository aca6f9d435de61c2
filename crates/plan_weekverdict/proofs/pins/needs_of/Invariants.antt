use Rattle.std.proofs.Common.{◌≡◌, take, map}
use Rattle.plan_weekverdict.proofs.pins.needs_of.Given as goal

-- the rows so far
abbrev pub invariant-loop-row : goal.invariant-loop-row
invariant-loop-row l = map (λ row. row.items) l.rows.items ≡ map (λ row. row.items) (take l.row-index l.week.needs.items)
