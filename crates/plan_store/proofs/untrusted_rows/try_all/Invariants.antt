use Rattle.std.proofs.Common.{take, Some}
use Rattle.std.specs.List.{AllZip}
use Rattle.plan_store.proofs.untrusted_rows.try_all.Given as goal

-- the values so far are those of the rows so far
abbrev pub invariant-loop-row : goal.invariant-loop-row
invariant-loop-row g l = AllZip (λ row x. g.T.TryFromRow.takes row (Some x)) (take l.row-index l.rows) l.all.items
