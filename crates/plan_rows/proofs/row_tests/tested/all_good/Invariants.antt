use Rattle.std.proofs.Common.{ℕ, ◌<◌, List, get_or}
use Rattle.plan_rows.specs.World.{Plan}
use Rattle.plan_rows.specs.Tables.{world_beside}
use Rattle.plan_rows.specs.PlanReview.{AreSeen}
use Rattle.plan_rows.proofs.row_tests.tested.all_good.Given as goal

-- those so far keep their rules
abbrev pub invariant-loop-row : goal.invariant-loop-row
invariant-loop-row g l = (known : List Plan) → AreSeen known l.plans → (k : ℕ) (d : g.row.T.Denot) → k < l.row-index → g.T.Tested.keeps (world_beside l.beside known) (get_or l.rows k d)
