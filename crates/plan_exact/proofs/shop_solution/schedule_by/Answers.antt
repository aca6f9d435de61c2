use Rattle.std.proofs.Common.{[], Contains, slice_index, sym, subst}
use Rattle.plan_shop.specs.Words.{letters_after}
use Rattle.plan_shop.specs.Trees.{Standing, placed}
use Rattle.plan_exact.proofs.SpellingLemmas.{letter_follows}
use Rattle.plan_exact.proofs.shop_solution.schedule_by.Goals as goal

pub push-requires : goal.push-requires
push-requires c =
    subst (λ (t : Standing). Contains (letters_after t.shop (placed t)) (slice_index c.args.word.now c.loop-letter.letter-index)) (sym c.loop-letter.invariant)
    (letter_follows c.args.shop.now [] c.args.word.now c.loop-letter.letter-index c.requires.is_word c.loop-letter-test.true)
