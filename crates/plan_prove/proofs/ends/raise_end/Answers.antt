use Rattle.std.proofs.Common.{ℕ, Option, subst}
use Rattle.std.specs.Prelude.{IfNone}
use Rattle.plan_prove.specs.States.{IsRefuted}
use Rattle.plan_prove.proofs.StateLemmas.{end_raised, end_refuted, none_left}
use Rattle.plan_prove.proofs.ends.raise_end.Goals as goal

pub returns-in_err-has_risen : goal.returns-in_err-has_risen
returns-in_err-has_risen c =
    let g = c.args.graph.now in
    let old = c.args.state.now in
    none_left g c.args.limit old old c.raise.new.self c.from_residual.result c.from_residual.ensures (λ starts h. h)
    (end_refuted g c.args.limit old c.args.end c.args.step c.args.value c.requires c.in_err-has_risen.ensures.none)

pub returns-in_err-span : goal.returns-in_err-span
returns-in_err-span c =
    let g = c.args.graph.now in
    let limit = c.args.limit in
    let new = c.raise.new.self in
    let refuted : IsRefuted g limit new = subst (λ (o : Option ℕ). IfNone o (IsRefuted g limit new)) c.in_err-span.was c.span.ensures in
    none_left g limit c.args.state.now new new c.from_residual-in_err-span.result c.from_residual-in_err-span.ensures
    (end_raised g limit c.args.state.now new c.args.end c.args.step c.args.value c.requires c.in_ok-has_risen.ensures.some) refuted

pub returns-then-not-has_risen : goal.returns-then-not-has_risen
returns-then-not-has_risen c =
    end_raised c.args.graph.now c.args.limit c.args.state.now c.raise.new.self c.args.end c.args.step c.args.value c.requires c.in_ok-has_risen.ensures.some

pub returns : goal.returns
returns c = end_raised c.args.graph.now c.args.limit c.args.state.now c.raise.new.self c.args.end c.args.step c.args.value c.requires c.in_ok-has_risen.ensures.some
