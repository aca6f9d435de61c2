use Rattle.std.proofs.Common.{◌≡◌, ◌++◌, length, map, filter}
use Rattle.plan_psplib.specs.Lines.{is_nonempty}
use Rattle.plan_report.specs.Sheet.{row_of}
use Rattle.plan_report.specs.StartsText.{row_by, rows_by}
use Rattle.plan_report.proofs.starts.rows_by.Given as goal

-- the rows so far, and those of the lines that are left
abbrev pub invariant-loop-line : goal.invariant-loop-line
invariant-loop-line l = map row_of l.rows.items ++ map (row_by l.form) (filter (λ line. is_nonempty line.text) l.rest) ≡ rows_by l.form l.text

abbrev pub decreases-loop-line : goal.decreases-loop-line
decreases-loop-line l = length l.rest
