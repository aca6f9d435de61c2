-- The word so far is a word, and goes on to that of the rule.
use Rattle.plan_shop.proofs.RuleLemmas.{GoesOn}
use Rattle.plan_shop.proofs.dispatch.at_word_of.Given as goal

abbrev pub invariant-loop-turn : goal.invariant-loop-turn
invariant-loop-turn l = GoesOn l.rule l.shop l.tree l._turn
