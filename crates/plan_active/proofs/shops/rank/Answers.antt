use Rattle.std.proofs.Common.{◌≡◌, ◌-◌, get_or, ap, ◌∙◌, arith}
use Rattle.plan_shop.specs.Trees.{placed}
use Rattle.plan_shop.specs.Words.{next_step, next_end}
use Rattle.plan_active.specs.Ranks.{lesser}
use Rattle.plan_active.proofs.GuideLemmas.{letter_of_job}
use Rattle.plan_active.proofs.shops.rank.Goals as goal

pub overflow_sub-step : goal.overflow_sub-step
overflow_sub-step c = omega (arith, (letter_of_job c.args.tree.now.shop (placed c.args.tree.now) c.args.letter c.requires.letter).is)

pub bounds-next-letter : goal.bounds-next-letter
bounds-next-letter c = omega (arith, (letter_of_job c.args.tree.now.shop (placed c.args.tree.now) c.args.letter c.requires.letter).job, c.requires.next.size)

pub end-requires-clause-step : goal.end-requires-clause-step
end-requires-clause-step c = c.requires.next.each (c.args.letter - 1) (letter_of_job c.args.tree.now.shop (placed c.args.tree.now) c.args.letter c.requires.letter).job

pub returns-clause-rank : goal.returns-clause-rank
returns-clause-rank c =
    let t = c.args.tree.now in
    let j = c.args.letter - 1 in
    let step : get_or c.args.next.now j 0 ≡ next_step t.shop (placed t) j = c.requires.next.each j (letter_of_job t.shop (placed t) c.args.letter c.requires.letter).job in
    c.lesser.ensures
    ∙ ap (λ e. lesser c.at.result e) c.in_ok-end.ensures.end
    ∙ ap (λ x. lesser x (next_end t.shop (placed t) j)) (c.at.ensures ∙ ap (λ y. get_or c.args.starts.now y 0) step)
