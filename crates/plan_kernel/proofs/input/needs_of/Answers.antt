use Rattle.std.proofs.Common.{◌≡◌, ◌+◌, ◌-◌, ℕ, Some, subst, arith}
use Rattle.std.specs.List.{slice_get}
use Rattle.plan_kernel.proofs.InputLemmas.{rows_more}
use Rattle.plan_kernel.proofs.input.needs_of.Goals as goal

pub loop-place-preserved : goal.loop-place-preserved
loop-place-preserved c =
    let i = c.args.instance.now in
    let place : c.loop-place.place + 1 - 1 ≡ c.loop-place.place = omega arith in
    let row : slice_get i.project.needs c.loop-place.place ≡ Some c.needs.result.now =
    subst (λ (k : ℕ). slice_get i.project.needs k ≡ Some c.needs.result.now) place c.needs.ensures.row in
    rows_more i.project.needs c.loop-place.place c.loop-place.needs.items c.push.new.self.items c.in_ok-narrow.field-0 c.needs.result.now
    c.loop-place.invariant row c.in_ok-narrow.ensures c.in_ok-push.ensures.items
