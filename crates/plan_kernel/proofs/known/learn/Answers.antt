use Rattle.std.proofs.Common.{◌∙◌, ◌∷◌, [], ap, sym, refl, arith}
use Rattle.plan_kernel.specs.declared.literal.Literal.{Literal}
use Rattle.plan_kernel.proofs.KeptLemmas.{one_literal}
use Rattle.plan_kernel.proofs.known.learn.Goals as goal

pub returns-then-len-eq1-clause-lesson : goal.returns-then-len-eq1-clause-lesson
returns-then-len-eq1-clause-lesson c =
    let l : Literal = c.index-literal.result.now in
    let one = one_literal c.args.clause.items l (omega (arith, c.if-len-eq1.true, c.len-2.ensures)) in
    (l, one ∙ ap (λ (m : Literal). m ∷ []) (sym c.index-literal.ensures), refl, c.raise.ensures.risen)
