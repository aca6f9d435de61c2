use Rattle.std.proofs.Common.{◌≡◌, length}
use Rattle.plan_table.specs.ShopNames.{behind_instance}
use Rattle.plan_table.proofs.shop_names.skip_to.Given as goal

-- what stands behind the instance line is still left
abbrev pub invariant-loop-line : goal.invariant-loop-line
invariant-loop-line l = behind_instance l.name l.lines ≡ behind_instance l.name l.fn.lines

abbrev pub decreases-loop-line : goal.decreases-loop-line
decreases-loop-line l = length l.lines
