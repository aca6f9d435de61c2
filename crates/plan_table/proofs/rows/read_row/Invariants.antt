use Rattle.std.proofs.Common.{◌≡◌, map, drop}
use Rattle.plan_table.specs.Table.{activity_of}
use Rattle.plan_table.specs.Header.{head_of}
use Rattle.plan_table.specs.Rows.{row_read, fresh_activity}
use Rattle.plan_table.specs.Predecessors.{label_of}
use Rattle.plan_table.proofs.rows.read_row.Given as goal

-- the columns and the cells that are left give the activity
abbrev pub invariant-loop-head : goal.invariant-loop-head
invariant-loop-head l = row_read (map label_of l.ids.all.now) (map label_of l.ids.before.now) l.line (activity_of l.activity)
    (map head_of (drop l.head-index l.heads)) (map (λ cell. cell.items) l.rest)
    ≡ row_read (map label_of l.ids.all.now) (map label_of l.ids.before.now) l.line (fresh_activity l.line l.id) (map head_of l.heads) (map (λ cell. cell.items) l.cells)
