use Rattle.std.proofs.Common.{◌≡◌, get_or, ap, sym, ◌∙◌}
use Rattle.plan_prove.proofs.StateLemmas.{side_kept}
use Rattle.plan_prove.specs.declared.state.Side.TheVariants.{Open, First, Second}
use Rattle.plan_prove.proofs.deduction.settle.Goals as goal

pub follow-requires : goal.follow-requires
follow-requires c =
    let side : get_or c.args.state.now.sides.items c.args.place Open ≡ First = sym (ap (λ xs. get_or xs c.args.place Open) c.deref.ensures.value) ∙ sym c.side_at.ensures ∙ c.in-First.is in
    λ starts h. side_kept c.args.graph.now c.args.limit c.args.state.now c.args.place c.index.result.now First starts c.requires c.index.ensures side h

pub follow-requires-in-Second : goal.follow-requires-in-Second
follow-requires-in-Second c =
    let side : get_or c.args.state.now.sides.items c.args.place Open ≡ Second = sym (ap (λ xs. get_or xs c.args.place Open) c.deref.ensures.value) ∙ sym c.side_at.ensures ∙ c.in-Second.is in
    λ starts h. side_kept c.args.graph.now c.args.limit c.args.state.now c.args.place c.index.result.now Second starts c.requires c.index.ensures side h
