use Rattle.std.proofs.Common.{sym, subst, Option, ℕ, suc, take, get_or, add-one, refl}
use Rattle.plan_shop.specs.Words.{jobs_after}
use Rattle.plan_shop.specs.Trees.{placed}
use Rattle.plan_shop.proofs.TurnLemmas.{pushable}
use Rattle.plan_shop.proofs.ChoiceLemmas.{IsBestSoFar, best-none, best-new, best-old, best-some, best-empty, letter-read}
use Rattle.plan_shop.proofs.tree.ShopTree.choice.Goals as goal
use Rattle.plan_shop.proofs.tree.ShopTree.choice.Goals.{then-comes_first, else-comes_first}

pub loop-letter-init : goal.loop-letter-init
loop-letter-init c = best-none c.args.rule c.args.self.now.shop (placed c.args.self.now)

pub overflow_sub-letter : goal.overflow_sub-letter
overflow_sub-letter c = (pushable _ _ (get_or c.args.letters.now c.loop-letter.letter-index 0)
    (letter-read _ _ c.args.letters.now c.requires c.loop-letter.letter-index _ c.loop-letter-test.true
    refl)).first

pub key-key-requires-clause-job : goal.key-key-requires-clause-job
key-key-requires-clause-job c = (pushable _ _ (get_or c.args.letters.now c.loop-letter.letter-index 0)
    (letter-read _ _ c.args.letters.now c.requires c.loop-letter.letter-index _ c.loop-letter-test.true
    refl)).job

pub key-key-requires-clause-next : goal.key-key-requires-clause-next
key-key-requires-clause-next c = (pushable _ _ (get_or c.args.letters.now c.loop-letter.letter-index 0)
    (letter-read _ _ c.args.letters.now c.requires c.loop-letter.letter-index _ c.loop-letter-test.true
    refl)).has

pub returns-in-Some : goal.returns-in-Some
returns-in-Some c = best-some c.args.rule c.args.self.now.shop
    (placed c.args.self.now) c.args.letters.now c.requires c.loop-letter.letter-index c.loop-letter-test.false
    c.loop-letter.best c.loop-letter.invariant _ c.in-Some.is

pub returns-in-None : goal.returns-in-None
returns-in-None c = best-empty c.args.rule c.args.self.now.shop
    (placed c.args.self.now) c.args.letters.now c.requires c.loop-letter.letter-index c.loop-letter-test.false
    c.loop-letter.best c.loop-letter.invariant c.in-None.is

pub loop-letter-preserved : goal.loop-letter-preserved
loop-letter-preserved c =
    let s = c.args.self.now.shop in
    let xs = placed c.args.self.now in
    let Q : Option (ℕ × ℕ) → Type 0 = λ r. IsBestSoFar c.args.rule s xs (take (suc c.loop-letter.letter-index) (jobs_after s xs)) r in
    rw add-one (elim c.if-comes_first.branch [
      | then-comes_first w ↦ subst Q (sym w.best-is)
          (best-new c.args.rule s xs c.args.letters.now c.requires c.loop-letter.letter-index
          (get_or c.args.letters.now c.loop-letter.letter-index 0) c.key-key.result c.loop-letter-test.true
          refl c.key-key.ensures c.loop-letter.best c.loop-letter.invariant _ c.comes_first.ensures
          w.if-comes_first.true)
      | else-comes_first w ↦ subst Q (sym w.best-is)
          (best-old c.args.rule s xs c.args.letters.now c.requires c.loop-letter.letter-index
          (get_or c.args.letters.now c.loop-letter.letter-index 0) c.key-key.result c.loop-letter-test.true
          refl c.key-key.ensures c.loop-letter.best c.loop-letter.invariant _ c.comes_first.ensures
          w.if-comes_first.false)
    ])
