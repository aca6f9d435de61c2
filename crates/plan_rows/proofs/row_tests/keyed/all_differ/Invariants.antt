use Rattle.std.proofs.Common.{drop}
use Rattle.plan_rows.specs.Rules.{AllDiffer}
use Rattle.plan_rows.specs.RowTests.{same_key}
use Rattle.plan_rows.proofs.KeyedLemmas.{HasSeen}
use Rattle.plan_rows.proofs.row_tests.keyed.all_differ.Given as goal

-- the rows from i on differ, and their keys were seen
abbrev pub invariant-loop-i : goal.invariant-loop-i
invariant-loop-i g l = AllDiffer (λ a b. same_key (g.T.Keyed.key_of a) (g.T.Keyed.key_of b)) (drop l.i l.rows)
    × HasSeen g.T.Keyed.key_of l.seen.keys (drop l.i l.rows)
