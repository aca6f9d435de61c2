use Rattle.std.proofs.Common.{◌≡◌, drop}
use Rattle.plan_spreadsheet.specs.Rows.{is_among}
use Rattle.plan_spreadsheet.proofs.rows.is_among.Given as goal

-- the column is among those that are left
abbrev pub invariant-loop-place : goal.invariant-loop-place
invariant-loop-place l = is_among (drop l.place-index l.places) l.k ≡ is_among l.places l.k
