use Rattle.std.proofs.Common.{◌∙◌, ℕ, List, ap, arith}
use Rattle.plan_kernel.specs.Literals.{at}
use Rattle.plan_kernel.proofs.InputLemmas.{duration_is, resources_are}
use Rattle.plan_kernel.proofs.reason.are_apart.Goals as goal

pub returns-then-one-need : goal.returns-then-one-need
returns-then-one-need c _ =
    let input = c.args.input.now in
    let one = c.at.ensures ∙ ap (λ (xs : List ℕ). at xs c.args.first) c.deref.ensures.value in
    let other = c.at-else-at-eq0.ensures ∙ ap (λ (xs : List ℕ). at xs c.args.second) c.deref-else-at-eq0.ensures.value in (
      c.if-first-second.false,
      omega (arith, c.if-at-eq0.false, one, duration_is input c.args.first),
      omega (arith, c.if-at-eq0-2.false, other, duration_is input c.args.second),
      (
        c.loop-resource.resource,
        omega (arith, c.loop-resource-test.true, c.len-resource-end.ensures, c.loop-resource.auto.resource-end, resources_are input),
        omega (arith, c.if-one-need.true, c.need-one.ensures, c.need.ensures, c.capacity.ensures),
      ),
    )
