use Rattle.std.proofs.Common.{◌≡◌, ◌+◌, ◌-◌, Some, arith}
use Rattle.std.specs.List.{slice_get}
use Rattle.plan_exact.proofs.MemoLemmas.{one_row_more}
use Rattle.plan_exact.proofs.questions.needs_of.Goals as goal

pub loop-k-preserved : goal.loop-k-preserved
loop-k-preserved c =
    let place : c.loop-k.k + 1 - 1 ≡ c.loop-k.k = omega arith in
    let row = rw place at c.needs.ensures.row in
    let here : slice_get c.args.instance.now.project.needs c.loop-k.k ≡ Some c.in_ok-row.row.items = rw c.in_ok-row.ensures.items row in
    rw c.in_ok-push.ensures.items (one_row_more c.args.instance.now.project.needs c.loop-k.needs.items c.in_ok-row.row c.loop-k.k c.loop-k.invariant here)
