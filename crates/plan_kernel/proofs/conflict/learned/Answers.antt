use Rattle.std.proofs.Common.{◌∙◌, ◌<◌, ℕ, [], ◌∷◌, ◌++◌, List, length, get_or, ap, arith}
use Rattle.plan_kernel.specs.declared.literal.Literal.{Literal}
use Rattle.plan_kernel.specs.Literals.{at, negated}
use Rattle.plan_kernel.proofs.TouchedLemmas.{negated_more, negated_none, negated_all}
use Rattle.plan_kernel.proofs.conflict.learned.Goals as goal
use Rattle.plan_kernel.proofs.conflict.learned.Goals.{then-value-gt0+in_ok-push, else-value-gt0}

pub loop-half-preserved : goal.loop-half-preserved
loop-half-preserved c =
    let values = c.args.conflict.now.values.items in
    let touched = c.args.conflict.now.touched.items in
    let items = c.deref-half-items.ensures.value in
    let i = c.loop-half.half-index in
    let inside : i < length touched = omega (arith, c.loop-half-test.true, ap length items) in
    let read = ap (λ (xs : List ℕ). get_or xs i 0) items in
    let value = c.at-value.ensures ∙ ap (λ (xs : List ℕ). at xs (get_or c.deref-half-items.result.now i 0)) c.deref.ensures.value ∙ ap (at values) read in
    elim c.if-value-gt0.branch [
      | then-value-gt0+in_ok-push w ↦ rw w.clause-is
          (negated_more values c.loop-half.clause.items w.push.new.self.items touched i c.at-value.result inside c.loop-half.invariant value
          (w.in_ok-push.ensures.items ∙ ap (λ (l : Literal). c.loop-half.clause.items ++ l ∷ []) (w.negated.ensures ∙ ap (λ (h : ℕ). negated (record { half = h; value = c.at-value.result })) read)))
      | else-value-gt0 w ↦ rw w.clause-is (negated_none values c.loop-half.clause.items touched i c.at-value.result inside c.loop-half.invariant value (omega (arith, w.if-value-gt0.false)))
    ]

pub returns : goal.returns
returns c =
    negated_all c.args.conflict.now.values.items c.loop-half.clause.items c.args.conflict.now.touched.items c.loop-half.half-index
    (omega (arith, c.loop-half-test.false, ap length c.deref-half-items.ensures.value)) c.requires c.loop-half.invariant
