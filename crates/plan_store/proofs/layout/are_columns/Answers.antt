use Rattle.std.proofs.Common.{◌≡◌, ◌≤◌, ◌<◌, ◌++◌, ◌∷◌, [], map, length, arith, refl, sym, ap, ap₂, ◌∙◌}
use Rattle.std.proofs.lemmas.List.{take_more, map_more, take_all}
use Rattle.plan_store.specs.Layouts.{filled_of}
use Rattle.plan_store.proofs.layout.are_columns.Goals as goal

pub loop-at-preserved : goal.loop-at-preserved
loop-at-preserved c =
    let xs = c.args.columns.now in
    let ys = c.args.wanted.now in
    let i = c.loop-at.at in
    let x = c.index-columns-at.result in
    let low : i < length xs = omega arith in
    take_more xs i x low ∙ ap₂ ◌++◌ c.loop-at.invariant (ap (λ y. y ∷ []) (sym c.index-columns-at.is ∙ c.if-not-is_column.ensures.0 refl))
    ∙ sym (map_more filled_of ys i _ c.loop-at-test.true)

pub returns : goal.returns
returns c =
    let xs = c.args.columns.now in
    let ys = c.args.wanted.now in
    let past : length ys ≤ c.loop-at.at = c.loop-at-test.false in
    let past_too : length xs ≤ c.loop-at.at = omega (arith, c.if-columns-wanted.false) in
    let same : xs ≡ map filled_of ys = sym (take_all c.loop-at.at xs past_too) ∙ c.loop-at.invariant ∙ ap (map filled_of) (take_all c.loop-at.at ys past) in
    (λ _. same, λ _. refl)
