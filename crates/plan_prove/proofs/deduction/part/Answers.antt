use Rattle.std.proofs.Common.{ℕ, ◌+◌, Option, get_or, ap, refl, subst, arith}
use Rattle.std.specs.Prelude.{IfNone}
use Rattle.plan_prove.specs.States.{IsRefuted}
use Rattle.plan_prove.specs.declared.state.State.{State}
use Rattle.plan_prove.proofs.StateLemmas.{followed, none_left}
use Rattle.plan_prove.proofs.deduction.part.Goals as goal

pub returns-in_err-span : goal.returns-in_err-span
returns-in_err-span c =
    let g = c.args.graph.now in
    let limit = c.args.limit in
    let old = c.args.state.now in
    let new : State = record { heads = c.raise.new.list; tails = c.raise-2.new.list; sides = c.args.state.now.sides; last = c.args.state.now.last } in
    let x = c.args.first in
    let y = c.args.second in
    let refuted : IsRefuted g limit new = subst (λ (o : Option ℕ). IfNone o (IsRefuted g limit new)) c.in_err-span.was c.span.ensures in
    none_left g limit old new new c.from_residual-in_err-span.result c.from_residual-in_err-span.ensures
    (
    followed g limit old new x y (c.at.result + c.at-2.result) (c.at-3.result + c.at-4.result) c.requires
    (omega (arith, c.at.ensures.value, c.at-2.ensures.value, ap (λ xs. get_or xs x 0) c.deref.ensures.value, ap (λ xs. get_or xs x 0) c.deref-2.ensures.value))
    (omega (arith, c.at-3.ensures.value, c.at-4.ensures.value, ap (λ xs. get_or xs y 0) c.deref-3.ensures.value, ap (λ xs. get_or xs y 0) c.deref-4.ensures.value))
    c.in_ok-later.ensures.some c.in_ok-longer.ensures.some refl
    )
    refuted

pub returns-in_err-span-2 : goal.returns-in_err-span-2
returns-in_err-span-2 c =
    let g = c.args.graph.now in
    let limit = c.args.limit in
    let old = c.args.state.now in
    let new : State = record { heads = c.raise.new.list; tails = c.raise-2.new.list; sides = c.args.state.now.sides; last = c.args.state.now.last } in
    let x = c.args.first in
    let y = c.args.second in
    let refuted : IsRefuted g limit new = subst (λ (o : Option ℕ). IfNone o (IsRefuted g limit new)) c.in_err-span-2.was c.span-2.ensures in
    none_left g limit old new new c.from_residual-in_err-span-2.result c.from_residual-in_err-span-2.ensures
    (
    followed g limit old new x y (c.at.result + c.at-2.result) (c.at-3.result + c.at-4.result) c.requires
    (omega (arith, c.at.ensures.value, c.at-2.ensures.value, ap (λ xs. get_or xs x 0) c.deref.ensures.value, ap (λ xs. get_or xs x 0) c.deref-2.ensures.value))
    (omega (arith, c.at-3.ensures.value, c.at-4.ensures.value, ap (λ xs. get_or xs y 0) c.deref-3.ensures.value, ap (λ xs. get_or xs y 0) c.deref-4.ensures.value))
    c.in_ok-later.ensures.some c.in_ok-longer.ensures.some refl
    )
    refuted
