use Rattle.std.proofs.Common.{take}
use Rattle.std.specs.List.{AllZip}
use Rattle.plan_store.proofs.query_rows.read_all.Given as goal

-- the values so far are those of the rows so far
abbrev pub invariant-loop-row : goal.invariant-loop-row
invariant-loop-row g l = AllZip g.T.FromRow.shows (take l.row-index l.rows) l.all.items
