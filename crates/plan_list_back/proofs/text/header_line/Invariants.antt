use Rattle.std.proofs.Common.{◌≡◌, length}
use Rattle.plan_table.specs.Csv.{header_line}
use Rattle.plan_list_back.proofs.text.header_line.Given as goal

-- the lines so far are blank
abbrev pub invariant-loop-rest : goal.invariant-loop-rest
invariant-loop-rest l = header_line l.rest ≡ header_line l.text

abbrev pub decreases-loop-rest : goal.decreases-loop-rest
decreases-loop-rest l = length l.rest
