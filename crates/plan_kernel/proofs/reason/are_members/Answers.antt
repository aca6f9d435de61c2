use Rattle.std.proofs.Common.{◌∙◌, sym, arith}
use Rattle.std.proofs.lemmas.Bool.{leb-false}
use Rattle.plan_kernel.proofs.ReasonLemmas.{members_more}
use Rattle.plan_kernel.proofs.reason.are_members.Goals as goal
use Rattle.plan_kernel.proofs.reason.are_members.Goals.{then-place-gt0, else-place-gt0}

pub loop-place-preserved : goal.loop-place-preserved
loop-place-preserved c =
    let i = c.loop-place.place in
    let members = c.args.members.now in
    members_more c.args.input.now c.args.from c.args.until i members c.loop-place-test.true c.loop-place.invariant
    (c.is_member.ensures c.if-not-is_member.false)
    (λ some. elim c.if-place-gt0.branch [
      | then-place-gt0 w ↦ leb-false _ _ (sym w.falls-is ∙ c.if-falls.false)
      | else-place-gt0 w ↦ absurd (omega (arith, some, w.if-place-gt0.false))
    ])
